use Rattle.std.proofs.Common.{◌≡◌, true, sym, subst}
use Rattle.book.specs.Jobs.{Job, is_done}
use Rattle.book.proofs.Results.{all_covered}
use Rattle.book.proofs.jobs.Job.verdict.Goals as goal

pub verdict-requires : goal.verdict-requires
verdict-requires c =
    let P : Job → Type 0 = λ j. is_done j ≡ true in
    all_covered c.self.inside.tally c.self.inside.slices.items c.self.invariant.tied (subst P (sym c.self.view_is) c.requires)
