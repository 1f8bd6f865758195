use Rattle.std.proofs.Common.{◌∙◌, ℕ, List, [], ◌∷◌, ◌++◌, ap, map, refl, sym, append-nil}
use Rattle.conditions.specs.States.{value_at}
use Rattle.conditions.specs.declared.place.Place.TheVariants.{Loc}
use Rattle.candidates.proofs.Gathered.{gathered_on}
use Rattle.std.proofs.lemmas.List.{drop_all}
use Rattle.candidates.proofs.space.initial_values.Goals as goal

pub loop-location-preserved : goal.loop-location-preserved
loop-location-preserved c =
    let f : List ℕ → ℕ = λ x. value_at c.args.test.now.initial (Loc x) in
    let at = c.loop-location in
    let x = c.location-item.result in
    gathered_on (map f) (map f) c.locations-location-items.result.now at.location-index x (f x ∷ []) at.values.items c.push.new.self.items _ c.loop-location-test.true c.location-item.is refl
    (c.in_ok-push.ensures.items ∙ ap (λ (v : ℕ). at.values.items ++ v ∷ []) (c.value_of.ensures ∙ ap f c.in_ok-copy.ensures)) at.invariant

pub returns : goal.returns
returns c = sym (append-nil c.loop-location.values.items) ∙ rw (drop_all c.loop-location.location-index c.locations-location-items.result.now c.loop-location-test.false) at c.loop-location.invariant
