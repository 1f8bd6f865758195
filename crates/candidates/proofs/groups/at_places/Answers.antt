use Rattle.std.proofs.Common.{◌∙◌, ◌++◌, List, ℕ, map, get_or, ap, sym, append-nil, refl}
use Rattle.std.proofs.lemmas.List.{at_drop_all}
use Rattle.candidates.proofs.Adding.{row_next}
use Rattle.candidates.proofs.groups.at_places.Goals as goal

pub loop-place-preserved : goal.loop-place-preserved
loop-place-preserved c =
    row_next (λ p. get_or c.args.sizes.now p 0) c.args.places.now c.loop-place.place-index 0 c.loop-place.all.items c.push.new.self.items _ c.loop-place-test.true refl c.in_ok-push.ensures.items c.loop-place.invariant

pub returns : goal.returns
returns c =
    let all = c.loop-place.all.items in
    sym (append-nil all) ∙ ap (λ (ss : List ℕ). all ++ ss) (sym (at_drop_all (map (λ p. get_or c.args.sizes.now p 0)) c.args.places.now c.loop-place.place-index c.loop-place-test.false)) ∙ c.loop-place.invariant
