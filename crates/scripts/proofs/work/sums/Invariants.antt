use Rattle.std.proofs.Common.{◌≡◌, ◌≤◌, ◌*◌, take}
use Rattle.std.specs.List.{sum_by}
use Rattle.sessions.specs.declared.passes.Counts.{Counts}
use Rattle.scripts.proofs.work.sums.Given as goal

-- the sums of the first counts, each of which is less than 2^64
abbrev pub invariant-loop-count : goal.invariant-loop-count
invariant-loop-count l =
    (l.sums.evaluated ≡ sum_by (λ (c : Counts). c.evaluated) (take l.count-index l.counts)) × (l.sums.given_back ≡ sum_by (λ (c : Counts). c.given_back) (take l.count-index l.counts))
    × (l.sums.refused ≡ sum_by (λ (c : Counts). c.refused) (take l.count-index l.counts))
    × (l.sums.evaluated ≤ l.count-index * 18446744073709551615) × (l.sums.given_back ≤ l.count-index * 18446744073709551615) × (l.sums.refused ≤ l.count-index * 18446744073709551615)
