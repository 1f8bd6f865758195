use Rattle.std.proofs.Common.{◌≡◌, ◌+◌, ◌≤◌, ℕ, take}
use Rattle.test_places.specs.Numbers.{greatest}
use Rattle.test_places.proofs.Greatest.{greatest_constant, added}
use Rattle.test_places.proofs.values.value_too_great.Given as goal

abbrev pub invariant-loop-place : goal.invariant-loop-place
invariant-loop-place l = record {
  constant : l.constant ≡ greatest_constant (take l.place l.numbers);
  added : l.added ≡ added (take l.place l.numbers);
  small : l.constant + l.added ≤ 2147483647;
  few : (j : ℕ) → j ≤ l.place → greatest (take j l.numbers) ≤ 2147483647;
}
