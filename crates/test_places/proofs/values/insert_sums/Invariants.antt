use Rattle.std.proofs.Common.{◌≡◌, ◌≤◌, ◌+◌, map, take, drop, length}
use Rattle.litmus_value.specs.Values.{with_values, with_sum}
use Rattle.test_places.proofs.values.insert_sums.Given as goal

-- what is left to add gives what all of it gives, and the values of before stand where they stood
abbrev pub invariant-loop-place : goal.invariant-loop-place
invariant-loop-place l = record {
  rest : with_values l.values.items (map (λ v. v + l.add) (drop l.place l.fn.values.items)) ≡ with_sum l.fn.values.items l.add;
  held : take (length l.fn.values.items) l.values.items ≡ l.fn.values.items;
  long : length l.fn.values.items ≤ length l.values.items;
}
