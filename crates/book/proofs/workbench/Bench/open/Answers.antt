use Rattle.std.proofs.Common.{◌≡◌, ◌∙◌, ◌+◌, ap, sym}
use Rattle.book.specs.Workbench.{Workbench}
use Rattle.book.proofs.Frees.{passed_start}
use Rattle.book.proofs.Numbers.{numbered_more}
use Rattle.book.proofs.workbench.Bench.open.Goals as goal

pub invariant_of-self-2 : goal.invariant_of-self-2
invariant_of-self-2 c =
    let next : c.args.job.number ≡ c.self.inside.last_job + 1 = c.requires ∙ sym (ap (λ (s : Workbench). s.last_job + 1) c.self.view_is) in
    rw (c.in_ok-push.ensures.items, c.number-number.ensures) (record { passed = passed_start _; numbered = numbered_more c.self.inside.jobs.items c.args.job c.self.inside.last_job c.self.invariant.numbered next })
