use Rattle.std.proofs.Common.{◌≡◌, ◌≤◌, ◌+◌, drop}
use Rattle.listings.specs.Lists.{sum_of}
use Rattle.candidates.specs.declared.fault.TheConstants.{MOST_CANDIDATES}
use Rattle.candidates.proofs.capped.capped_sum.Given as goal

abbrev pub invariant-loop-part : goal.invariant-loop-part
invariant-loop-part l = record {
  is : l.sum + sum_of (λ n. n) (drop l.part-index l.parts) ≡ sum_of (λ n. n) l.parts;
  capped : l.sum ≤ MOST_CANDIDATES;
}
