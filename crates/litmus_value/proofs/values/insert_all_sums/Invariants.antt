use Rattle.std.proofs.Common.{◌≡◌, ◌≤◌, ◌<◌, ◌+◌, ◌*◌, drop, length}
use Rattle.std.specs.Prelude.{◌^◌, All}
use Rattle.litmus_value.specs.Values.{with_sums}
use Rattle.litmus_value.proofs.values.insert_all_sums.Given as goal

-- what is left to add gives what all of it gives; each add makes values greater by less than 2 ^ 32
abbrev pub invariant-loop-place : goal.invariant-loop-place
invariant-loop-place l = record {
  rest : with_sums l.values.items (drop l.place l.adds) ≡ with_sums l.fn.values.items l.adds;
  few : length l.values.items ≤ 16;
  narrow : All (λ v. v < (l.place + 1) * 2 ^ 32) l.values.items;
}
