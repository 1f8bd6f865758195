use Rattle.std.proofs.Common.{ℕ, sym, subst, Option}
use Rattle.listings.specs.Lists.{product_by}
use Rattle.candidates.specs.Candidates.{IsCapped}
use Rattle.candidates.specs.Groups.{ways_of}
use Rattle.candidates.specs.declared.fault.TheConstants.{MOST_CANDIDATES}
use Rattle.candidates.proofs.Caps.{above, above_by_one, taken_factor, product_positive}
use Rattle.candidates.proofs.Adding.{nowhere, some_ways, factor_positive}
use Rattle.candidates.proofs.counts.all_ways.Goals as goal

pub returns-in_err-ways : goal.returns-in_err-ways
returns-in_err-ways c =
    let all = c.args.all.now in
    let Q : Option ℕ → Type 0 = IsCapped MOST_CANDIDATES (product_by ways_of all) in
    let p = factor_positive c.loop-counts.product _ _ c.loop-counts.invariant.is (product_positive ways_of some_ways all) in
    subst Q (sym c.from_residual.ensures) (above_by_one ways_of all c.loop-counts.counts-index nowhere c.loop-counts.product MOST_CANDIDATES some_ways p c.loop-counts-test.true c.loop-counts.invariant.is c.in_err-ways.ensures)

pub returns-in_err-product : goal.returns-in_err-product
returns-in_err-product c =
    let all = c.args.all.now in
    let Q : Option ℕ → Type 0 = IsCapped MOST_CANDIDATES (product_by ways_of all) in
    subst Q (sym c.from_residual-in_err-product.ensures) (above ways_of all c.loop-counts.counts-index nowhere c.loop-counts.product c.in_ok-ways.ways MOST_CANDIDATES some_ways c.in_ok-ways.ensures.0 c.loop-counts-test.true c.loop-counts.invariant.is c.in_err-product.ensures)

pub loop-counts-preserved : goal.loop-counts-preserved
loop-counts-preserved c = record {
  is = taken_factor ways_of c.args.all.now c.loop-counts.counts-index nowhere c.loop-counts.product c.in_ok-ways.ways c.in_ok-product.product c.in_ok-ways.ensures.0 c.loop-counts-test.true c.loop-counts.invariant.is c.in_ok-product.ensures.0;
  capped = rw c.in_ok-product.ensures.0 c.in_ok-product.ensures.1;
}
