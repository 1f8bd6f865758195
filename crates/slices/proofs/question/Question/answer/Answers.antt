use Rattle.std.proofs.Common.{◌∙◌, ap, map, length, sym, List, ℕ}
use Rattle.conditions.specs.States.{bindings, holds_in}
use Rattle.conditions.specs.Conditions.{formula_of}
use Rattle.slices.specs.Slots.{slot_value, slot_of}
use Rattle.slices.proofs.Answered.{answered}
use Rattle.std.proofs.lemmas.List.{length-map}
use Rattle.conditions.specs.declared.place.Place.{Place}
use Rattle.slices.proofs.question.Question.answer.Goals as goal

pub returns : goal.returns
returns c =
    let test = c.self.inside.test.now in
    let places = c.self.inside.places.items in
    let formula = formula_of c.prop-prop.result.now in
    let values = c.in_ok-state.ensures ∙ ap (map (slot_value c.args.graph.now)) (c.deref.ensures.value ∙ c.self.invariant.slots) in
    let asked = c.prop-prop.ensures ∙ ap (λ k. k.formula) c.condition.ensures in
    let told = c.holds.ensures ∙ ap (λ s. holds_in s formula) (c.new.ensures ∙ ap (λ ps. bindings ps c.values.result.now) c.deref-2.ensures.value ∙ ap (bindings places) c.values.ensures) in
    answered c.args.self.now test c.args.graph.now places c.in_ok-state.state formula c.holds.result c.self.view_is c.self.invariant.observed values asked told

pub new-requires : goal.new-requires
new-requires c =
    let test = c.self.inside.test.now in
    let places = c.self.inside.places.items in
    let values = c.values.ensures ∙ c.in_ok-state.ensures ∙ ap (map (slot_value c.args.graph.now)) (c.deref.ensures.value ∙ c.self.invariant.slots) in
    ap (λ (ps : List Place). length ps) c.deref-2.ensures.value ∙ sym (ap (λ (vs : List ℕ). length vs) values ∙ length-map (map (slot_of test) places) (slot_value c.args.graph.now) ∙ length-map places (slot_of test))
