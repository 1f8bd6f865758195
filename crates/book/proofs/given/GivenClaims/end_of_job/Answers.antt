use Rattle.std.proofs.Common.{◌∙◌, ap, ℕ, List}
use Rattle.book.specs.Newest.{with_newest}
use Rattle.book.specs.Step.{elsewhere}
use Rattle.book.specs.declared.live.Live.{Live}
use Rattle.book.proofs.Newest.{given_elsewhere, elsewhere_with}
use Rattle.book.proofs.given.GivenClaims.end_of_job.Goals as goal

pub invariant_of-self : goal.invariant_of-self
invariant_of-self c =
    rw c.unless_of-newest.ensures (given_elsewhere c.self.inside.older _ c.self.inside.newest _ c.args.number c.self.invariant c.end_of_job.ensures)

pub returns : goal.returns
returns c =
    let older = c.self.inside.older in
    let newest = c.self.inside.newest in
    let n = c.args.number in
    ap (λ (v : List Live × ℕ). (with_newest v.0 c.unless_of-newest.result, c.self.inside.last)) c.end_of_job.ensures
    ∙ ap (λ o. (with_newest (elsewhere n older.0) o, c.self.inside.last)) c.unless_of-newest.ensures
    ∙ ap (λ live. (live, c.self.inside.last)) (elsewhere_with older.0 newest n)
    ∙ ap (λ (v : List Live × ℕ). (elsewhere n v.0, v.1)) c.self.view_is
