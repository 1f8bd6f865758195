use Rattle.std.proofs.Common.{◌≡◌, ◌≤◌, ◌*◌, drop}
use Rattle.listings.specs.Lists.{product_by}
use Rattle.candidates.specs.Groups.{ways_of}
use Rattle.candidates.specs.declared.fault.TheConstants.{MOST_CANDIDATES}
use Rattle.candidates.proofs.counts.all_ways.Given as goal

abbrev pub invariant-loop-counts : goal.invariant-loop-counts
invariant-loop-counts l = record {
  is : l.product * product_by ways_of (drop l.counts-index l.all) ≡ product_by ways_of l.all;
  capped : l.product ≤ MOST_CANDIDATES;
}
