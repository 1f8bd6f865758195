-- What the final state of an execution says, by the values at the slots of the observed places.
use Rattle.std.proofs.Common.{◌≡◌, ◌∙◌, ℕ, List, Bool, map, sym, ap, subst}
use Rattle.conditions.specs.Conditions.{Formula}
use Rattle.conditions.specs.States.{AreObserved, bindings, holds_in}
use Rattle.conditions.specs.declared.place.Place.{Place}
use Rattle.events.specs.Executions.{GraphValue}
use Rattle.litmus_tree.specs.Tree.{Litmus}
use Rattle.slices.specs.Questions.{IsAnswer}
use Rattle.slices.specs.Slots.{slot_of, slot_value}
use Rattle.slices.proofs.Counted.{row_is}

pub answered : (t u : Litmus) (x : GraphValue) (places : List Place) (state : List ℕ) (formula : Formula) (has : Bool) → u ≡ t → AreObserved u.condition u.listed places → state ≡ map (slot_value x) (map (slot_of u) places) → formula ≡ u.condition.formula → has ≡ holds_in (bindings places state) formula →
    IsAnswer t x has
answered t u x places state formula has e observed values asked told =
    let P : Litmus → Type 0 = λ v. IsAnswer v x has in
    subst P e (places, observed, sym (told ∙ ap (λ f. holds_in (bindings places state) f) asked ∙ ap (λ vs. holds_in (bindings places vs) u.condition.formula) (values ∙ row_is u x places)))
