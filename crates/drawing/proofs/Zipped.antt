-- Lists side by side, where one has an end.
use Rattle.std.proofs.Common.{◌≡◌, ◌∙◌, List, [], ◌∷◌, ◌++◌, length, map, ap, sym, refl, arith, append-nil}
use Rattle.std.specs.Prelude.{zip}
use Rattle.events.specs.declared.event.EventId.{EventId}
use Rattle.drawing.specs.declared.arrows.Arrow.{Arrow}
use Rattle.drawing.specs.Arrows.{arrow}

-- what is left of two lists, where the second is empty
none_zipped : (ws left : List EventId) → length left ≡ 0 → zip ws left ≡ []
none_zipped [] left e = refl
none_zipped (w ∷ ws) [] e = refl
none_zipped (w ∷ ws) (r ∷ left) e = absurd (omega (arith, e))

pub none_left : (ws left : List EventId) (arrows all : List Arrow) → length left ≡ 0 → arrows ++ map (λ p. arrow p.0 p.1) (zip ws left) ≡ all → arrows ≡ all
none_left ws left arrows all e f =
    sym (append-nil arrows) ∙ ap (λ (ps : List (EventId × EventId)). arrows ++ map (λ p. arrow p.0 p.1) ps) (sym (none_zipped ws left e)) ∙ f
