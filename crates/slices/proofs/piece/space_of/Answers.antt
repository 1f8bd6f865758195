use Rattle.std.proofs.Common.{subst}
use Rattle.candidates.specs.Faults.{IsSpaceFault}
use Rattle.candidates.specs.declared.fault.SpaceFault.TheVariants as of_space
use Rattle.slices.proofs.Admitted.{few_candidates, few_runs}
use Rattle.slices.proofs.piece.space_of.Goals as goal

pub unreachable-requires : goal.unreachable-requires
unreachable-requires c =
    let thread = c.in-Err-TooManyRuns.field-0-0 in
    let fault = subst (IsSpaceFault c.test.result.now) c.in-Err-TooManyRuns.field-0-is c.in-Err-TooManyRuns.ensures.fault in
    few_runs c.args.work.now.test thread c.size.ensures.admitted (subst (λ t. IsSpaceFault t (of_space.TooManyRuns thread)) c.test.ensures fault)

pub unreachable-requires-in-Err-TooManyCandidates : goal.unreachable-requires-in-Err-TooManyCandidates
unreachable-requires-in-Err-TooManyCandidates c =
    let fault = subst (IsSpaceFault c.test.result.now) c.in-Err-TooManyCandidates.field-0-is c.in-Err-TooManyCandidates.ensures.fault in
    few_candidates c.args.work.now.test c.size.ensures.admitted (subst (λ t. IsSpaceFault t of_space.TooManyCandidates) c.test.ensures fault)
