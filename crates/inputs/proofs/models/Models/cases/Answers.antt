use Rattle.std.proofs.Common.{arith, subst}
use Rattle.inputs.specs.Loaded.{AreLoaded}
use Rattle.inputs.proofs.Cases.{all_cases, case_more, counted, none_yet}
use Rattle.inputs.proofs.models.Models.cases.Goals as goal

pub loop-place-init : goal.loop-place-init
loop-place-init c = none_yet _ c.args.self.now.names c.args.self.now.digests _ c.new-cases.ensures.items

pub loop-place-preserved : goal.loop-place-preserved
loop-place-preserved c =
    let loaded = subst (λ v. AreLoaded c.self.inside.models.items v.names v.digests) c.self.view_is c.self.invariant in
    let h = counted loaded in
    case_more _ c.args.self.now.names c.args.self.now.digests _ _ c.loop-place.place c.case.result (omega (arith, h.0, c.len-place-end.ensures, c.loop-place-test.true)) (omega (arith, h.1, c.len-place-end.ensures, c.loop-place-test.true))
    c.loop-place.invariant c.case.ensures c.in_ok-push.ensures.items

pub returns : goal.returns
returns c =
    let loaded = subst (λ v. AreLoaded c.self.inside.models.items v.names v.digests) c.self.view_is c.self.invariant in
    all_cases _ _ c.args.self.now.names c.args.self.now.digests _ c.loop-place.place (omega (arith, c.len-place-end.ensures, c.loop-place-test.false)) loaded c.loop-place.invariant
