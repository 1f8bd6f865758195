use Rattle.std.proofs.Common.{◌≡◌, ◌+◌, ◌<◌, ◌≤◌, ℕ, take, length, map, true, false, get_or}
use Rattle.listings.specs.Lists.{sum_of}
use Rattle.candidates.specs.Impossible.{is_refused}
use Rattle.candidates.proofs.impossible.ThreadNeeds.passed.Given as goal

abbrev pub invariant-loop-end : goal.invariant-loop-end
invariant-loop-end l = record {
  order : l.place ≤ l.end;
  within : l.end ≤ length l.sizes;
  sum : sum_of (λ k. k) (take l.place l.sizes) + l.sum ≡ sum_of (λ k. k) (take l.end l.sizes);
  marked : (i : ℕ) → l.place ≤ i → i < l.end → get_or (map (is_refused l.chosen l.self.behind) l.self.needs.items) i false ≡ true;
}
