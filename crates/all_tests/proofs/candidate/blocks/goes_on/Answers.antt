use Rattle.std.proofs.Common.{ap, subst}
use Rattle.candidates.specs.Candidates.{Choices}
use Rattle.candidates.specs.Walks.{IsPausedIn, Walking}
use Rattle.all_tests.proofs.candidate.blocks.goes_on.Goals as goal

pub resume-behind-requires-clause-paused : goal.resume-behind-requires-clause-paused
resume-behind-requires-clause-paused c =
    let P : Choices → Type 0 = λ s. IsPausedIn s c.pause.result in
    subst P (ap (λ (w : Walking). w.space) c.walk-walk.ensures) c.pause.ensures
