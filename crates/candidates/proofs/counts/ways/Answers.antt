use Rattle.std.proofs.Common.{◌≡◌, ◌≤◌, ◌+◌, ◌^◌, ◌*◌, ℕ, sym, subst, Option, arith}
use Rattle.std.proofs.Math.Nat.{mul_comm, one-le-pow}
use Rattle.listings.specs.Lists.{factorial}
use Rattle.candidates.specs.Candidates.{IsCapped}
use Rattle.candidates.specs.declared.fault.TheConstants.{MOST_CANDIDATES}
use Rattle.candidates.proofs.Caps.{factor_le, factorial_positive}
use Rattle.candidates.proofs.counts.ways.Goals as goal

pub returns-in_err-ways : goal.returns-in_err-ways
returns-in_err-ways c =
    let a = (c.args.counts.writes + 1) ^ c.args.counts.reads in
    let b = factorial c.args.counts.writes in
    let P : Option ℕ → Type 0 = IsCapped MOST_CANDIDATES (a * b) in
    subst P (sym c.from_residual.ensures) (omega (arith, c.in_err-ways.ensures, factor_le a b (factorial_positive c.args.counts.writes)))

pub returns-in_err-orders : goal.returns-in_err-orders
returns-in_err-orders c =
    let a = (c.args.counts.writes + 1) ^ c.args.counts.reads in
    let b = factorial c.args.counts.writes in
    let p : 1 ≤ a = one-le-pow c.args.counts.reads (c.args.counts.writes + 1) (omega arith) in
    let P : Option ℕ → Type 0 = IsCapped MOST_CANDIDATES (a * b) in
    let e : b * a ≡ a * b = mul_comm b a in
    subst P (sym c.from_residual-in_err-orders.ensures) (omega (arith, c.in_err-orders.ensures, factor_le b a p, e))
