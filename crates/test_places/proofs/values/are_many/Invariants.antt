use Rattle.std.proofs.Common.{◌≡◌, ◌<◌, ◌+◌, ◌*◌, drop}
use Rattle.std.specs.Prelude.{◌^◌, All}
use Rattle.litmus_value.specs.Values.{with_sums}
use Rattle.test_places.proofs.values.are_many.Given as goal

-- what is left to add gives what all of it gives; each add makes values greater by less than 2 ^ 32
abbrev pub invariant-loop-place : goal.invariant-loop-place
invariant-loop-place l = record {
  rest : with_sums l.values.items (drop l.place l.adds) ≡ with_sums l.constants l.adds;
  narrow : All (λ v. v < (l.place + 1) * 2 ^ 32) l.values.items;
}
