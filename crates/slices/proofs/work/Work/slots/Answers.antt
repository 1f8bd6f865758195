use Rattle.std.proofs.Common.{◌≡◌, ◌∙◌, List, ap, map, subst}
use Rattle.conditions.proofs.ObservedPlaces.{same_observed}
use Rattle.conditions.specs.States.{AreObserved}
use Rattle.conditions.specs.declared.place.Place.{Place}
use Rattle.slices.specs.Slots.{slot_of}
use Rattle.slices.specs.Works.{WorkValue}
use Rattle.slices.proofs.work.Work.slots.Goals as goal

pub returns : goal.returns
returns c =
    let t = c.self.inside.test in
    let P : WorkValue → Type 0 = λ w. (places : List Place) → AreObserved w.test.condition w.test.listed places → c.deref.result.now ≡ map (slot_of w.test) places in
    subst P c.self.view_is (λ places observed. c.deref.ensures.value ∙ c.self.invariant.slots ∙ ap (map (slot_of t)) (same_observed t.condition t.listed c.self.inside.places.value.items places c.self.invariant.observed observed))
