use Rattle.std.proofs.Common.{ℕ, sym, subst, Option}
use Rattle.listings.specs.Lists.{factorial}
use Rattle.candidates.specs.Candidates.{IsCapped}
use Rattle.candidates.specs.declared.fault.TheConstants.{MOST_CANDIDATES}
use Rattle.candidates.proofs.Caps.{passes_factorial}
use Rattle.candidates.proofs.capped.capped_factorial.Goals as goal

pub returns-in_err-product : goal.returns-in_err-product
returns-in_err-product c =
    let P : Option ℕ → Type 0 = IsCapped MOST_CANDIDATES (factorial c.args.count) in
    subst P (sym c.from_residual.ensures) (passes_factorial MOST_CANDIDATES c.loop-factor.product c.loop-factor.factor c.args.count c.loop-factor.invariant.is c.in_err-product.ensures c.loop-factor-test.true)
