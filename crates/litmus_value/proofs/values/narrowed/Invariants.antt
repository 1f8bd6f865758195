use Rattle.std.proofs.Common.{◌≡◌, ◌≤◌, take}
use Rattle.std.specs.Prelude.{All}
use Rattle.litmus_value.proofs.values.narrowed.Given as goal

-- what is copied so far is small
abbrev pub invariant-loop-value : goal.invariant-loop-value
invariant-loop-value l = record {
  copied : l.narrow.items ≡ take l.value-index l.values;
  small : All (λ v. v ≤ 2147483647) l.narrow.items;
}
