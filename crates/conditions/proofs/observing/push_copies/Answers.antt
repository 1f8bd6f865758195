use Rattle.std.proofs.Common.{◌∙◌, List, [], ◌∷◌, ◌++◌, take, append_assoc, ap, sym}
use Rattle.std.proofs.lemmas.List.{take_more}
use Rattle.conditions.specs.declared.place.Place.{Place}
use Rattle.conditions.proofs.observing.push_copies.Goals as goal

pub loop-place-preserved : goal.loop-place-preserved
loop-place-preserved c =
    let old = c.args.places.now.items in
    let listed = c.args.listed.now in
    let at = c.loop-place.place-index in
    c.in_ok-push.ensures.items ∙ ap (λ (ps : List Place). ps ++ c.in_ok-copy.field-0 ∷ []) c.loop-place.invariant ∙ append_assoc old (take at listed) (c.in_ok-copy.field-0 ∷ [])
    ∙ ap (λ (x : Place). old ++ (take at listed ++ x ∷ [])) (c.in_ok-copy.ensures ∙ c.place-item.is)
    ∙ ap (λ (ps : List Place). old ++ ps) (sym (take_more listed at c.place-item.result c.loop-place-test.true))
