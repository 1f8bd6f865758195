-- Executions one behind another that differ in their orders alone, counted by the writes that stand last. No statement on what is found rests on this.
use Rattle.std.specs.Prelude.{◌≡◌, ℕ, zero, suc, ◌*◌, ◌≤◌, ◌^◌, List, [], ◌∷◌, ◌++◌, map, if◌then◌else◌}
use Rattle.events.specs.Executions.{GraphValue}
use Rattle.listings.specs.Lists.{product_by}
use Rattle.listings.specs.Numbered.{digits}
use Rattle.litmus_tree.specs.Tree.{Word}
use Rattle.slices.specs.declared.slot.Slot.{Slot}
use Rattle.slices.specs.Findings.{FindingValue}
use Rattle.slices.specs.Slots.{slot_by}
use Rattle.slices.specs.Sums.{state_has}
use Rattle.slices.specs.Totals.{total}
use Rattle.slices.specs.Ways.{WaysValue, count_of_ways, size_of_ways, way, weight_by, weight_of_way}

-- xs, and behind them the first m values of f
abbrev pub followed : {X : Type 0} → List X → (ℕ → X) → ℕ → List X
followed xs f zero = xs
followed xs f (suc m) = followed xs f m ++ f m ∷ []

-- the first m of some final states, each found so many times, with the names of these flags
abbrev pub of_states : FindingValue → (weight : ℕ → ℕ) → (rows : ℕ → List ℕ) → ℕ → List Word → FindingValue
of_states v weight rows m flags = record v {
  positive = total m (λ j. weight j * (if state_has v (rows j) then 1 else 0));
  negative = total m (λ j. weight j * (if state_has v (rows j) then 0 else 1));
  states = followed [] rows m;
  flags = flags;
}

-- the final state where the writes that are chosen by this number stand last
abbrev pub row_by : GraphValue → List Slot → List WaysValue → ℕ → List ℕ
row_by x slots ways j = map (slot_by x (digits count_of_ways way ways j)) slots

-- in how many of the orders these do
abbrev pub weight_at : List WaysValue → ℕ → ℕ
weight_at ways j = weight_by count_of_ways weight_of_way ways j

-- the final states of all orders, by the writes that stand last in them
abbrev pub of_ways : FindingValue → GraphValue → List Slot → List WaysValue → List Word → FindingValue
of_ways v x slots ways flags = of_states v (weight_at ways) (row_by x slots ways) (product_by count_of_ways ways) flags

-- There are no more ways than orders, and the orders are few.
pub record AreFew (ways : List WaysValue) : Type 0 where
  pub most : product_by count_of_ways ways ≤ product_by size_of_ways ways
  pub all : total (product_by count_of_ways ways) (weight_at ways) ≡ product_by size_of_ways ways
  pub few : product_by size_of_ways ways ≤ 2 ^ 32
