use Rattle.std.proofs.Common.{◌^◌, ℕ, sym, subst, Option, ◌≡◌, ◌≤◌, ◌*◌, ◌+◌, ◌∙◌, ap, arith}
use Rattle.candidates.specs.Candidates.{IsCapped}
use Rattle.candidates.specs.declared.fault.TheConstants.{MOST_CANDIDATES}
use Rattle.candidates.proofs.Caps.{passes_power, power_step}
use Rattle.candidates.proofs.capped.capped_power.Goals as goal

pub returns-in_err-power : goal.returns-in_err-power
returns-in_err-power c =
    let P : Option ℕ → Type 0 = IsCapped MOST_CANDIDATES (c.args.base ^ c.args.exponent) in
    subst P (sym c.from_residual.ensures) (passes_power MOST_CANDIDATES c.loop-taken.power c.args.base c.loop-taken._taken c.args.exponent c.loop-taken.invariant.is c.in_err-power.ensures c.loop-taken-test.true c.requires)

pub loop-taken-preserved : goal.loop-taken-preserved
loop-taken-preserved c =
    let at = c.loop-taken in
    let e : at.power * c.args.base ≡ c.args.base ^ (at._taken + 1) = ap (λ p. p * c.args.base) at.invariant.is ∙ power_step c.args.base at._taken in
    let P : ℕ → Type 0 = λ p. p ≤ MOST_CANDIDATES in
    record { is = c.in_ok-power.ensures.0 ∙ e; capped = subst P e c.in_ok-power.ensures.1; within = omega (arith, c.loop-taken-test.true) }

pub returns : goal.returns
returns c =
    let at = c.loop-taken in
    let e : at._taken ≡ c.args.exponent = omega (arith, at.invariant.within, c.loop-taken-test.false) in
    let P : ℕ → Type 0 = λ k. (at.power ≡ c.args.base ^ k) × (c.args.base ^ k ≤ MOST_CANDIDATES) in
    subst P e (at.invariant.is, at.invariant.capped)
