-- What the final state of an execution says to the question of its test.
use Rattle.std.specs.Prelude.{◌≡◌, List, Bool}
use Rattle.conditions.specs.States.{AreObserved}
use Rattle.conditions.specs.declared.place.Place.{Place}
use Rattle.events.specs.Executions.{GraphValue}
use Rattle.litmus_tree.specs.Tree.{Litmus}
use Rattle.slices.specs.Finals.{has}

-- whether the final state, at the observed places, has the proposition of the test
abbrev pub IsAnswer : Litmus → GraphValue → Bool → Type 0
IsAnswer t x b = (places : List Place) × AreObserved t.condition t.listed places × (has t places x ≡ b)
