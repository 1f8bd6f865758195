use Rattle.std.proofs.Common.{◌≡◌, ◌<◌, ◌≤◌, ℕ, take, [], ◌∷◌}
use Rattle.std.specs.Prelude.{◌^◌, All, fold}
use Rattle.test_places.specs.Numbers.{with_constant, with_added, values}
use Rattle.test_places.proofs.values.value_too_many.Given as goal

abbrev pub invariant-loop-place : goal.invariant-loop-place
invariant-loop-place l = record {
  constants : l.constants.items ≡ fold with_constant (0 ∷ 1 ∷ []) (take l.place l.numbers);
  adds : l.adds.items ≡ fold with_added [] (take l.place l.numbers);
  narrow : All (λ v. v < 2 ^ 32) l.constants.items;
  few : (j : ℕ) → j ≤ l.place → values (take j l.numbers) ≤ 16;
}
