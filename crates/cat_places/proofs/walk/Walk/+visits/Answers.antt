use Rattle.std.proofs.Common.{◌≡◌, ◌≤◌, ◌∙◌, ◌++◌, ◌∷◌, [], ap, length, refl, arith}
use Rattle.std.proofs.lemmas.List.{at_drop_all}
use Rattle.std.proofs.lemmas.Result.{on_ok_weaker}
use Rattle.cat_places.proofs.Walking.{nothing_more, brought_last, brought_none, brought_inside, item_at, visit_more, few_more, full, done, no_item}
use Rattle.cat_tree.specs.Tree.{clause_of}
use Rattle.cat_places.specs.Walks.{brought, listed, cut, items_of}
use Rattle.cat_places.proofs.walk.Walk.+visits.Goals as goal

pub enter-returns-then-depth-eq0 : goal.enter-returns-then-depth-eq0
enter-returns-then-depth-eq0 t c = nothing_more c.args.visits.now.items _ (brought_last c.args.self.now.sources.now c.args.self.now.files.now c.args.depth c.args.path.now c.args.turn (omega (arith, c.if-depth-eq0.true))) c.requires.few

pub enter-returns-in_ok-push-in-Into : goal.enter-returns-in_ok-push-in-Into
enter-returns-in_ok-push-in-Into t c =
    let longer : c.deref.result.now ≡ c.args.path.now ++ c.in-Into.source ∷ [] = c.deref.ensures.value ∙ c.in_ok-push-in-Into.ensures.items ∙ ap (λ l. l ++ c.in-Into.source ∷ []) c.in_ok-longer-in-Into.ensures.items in
    let inside = brought_inside c.args.self.now.sources.now c.args.self.now.files.now c.args.depth c.args.path.now c.deref.result.now c.args.turn c.in-Into.source c.if-depth-eq0.false c.in-Into.is longer in
    on_ok_weaker c.visit.result (λ p. p ∙ ap (λ l. cut (c.args.visits.now.items ++ l)) inside) c.visit.ensures

pub enter-returns-in_default : goal.enter-returns-in_default
enter-returns-in_default t c = nothing_more c.args.visits.now.items _ (brought_none c.args.self.now.sources.now c.args.self.now.files.now c.args.depth c.args.path.now c.args.turn c.in_default.not-Into) c.requires.few

pub visit-returns-then-len-gt-MOST_ITEMS : goal.visit-returns-then-len-gt-MOST_ITEMS
visit-returns-then-len-gt-MOST_ITEMS t c = full c.loop-number.visits.items _ _ (omega (arith, c.if-len-gt-MOST_ITEMS.true, c.len.ensures)) c.loop-number.invariant.few c.loop-number.invariant.whole

pub visit-loop-number-preserved : goal.visit-loop-number-preserved
visit-loop-number-preserved t c =
    let ss = c.args.self.now.sources.now in
    let fs = c.args.self.now.files.now in
    let item = item_at c.items_of-items.result.now (items_of fs c.args.source) c.loop-number.number c.index-items-number.result c.items_of-items.ensures c.loop-number-test.true c.index-items-number.is in
    let more = visit_more ss (brought ss fs c.args.depth c.args.path.now) c.args.path.now c.args.source c.loop-number.number (items_of fs c.args.source) (clause_of c.index-items-number.result) c.turn-turn.result (record { source = c.args.source; item = c.loop-number.number; turn = c.turn-turn.result }) c.loop-number.visits.items c.push.new.self.items c.enter.new.visits.items _
    item c.turn-turn.ensures refl c.in_ok-push.ensures.items c.in_ok-enter.ensures c.loop-number.invariant.whole in
    record { few = few_more c.enter.new.visits.items _ c.in_ok-enter.ensures; whole = more }

pub visit-returns : goal.visit-returns
visit-returns t c =
    let ss = c.args.self.now.sources.now in
    let fs = c.args.self.now.files.now in
    let end : length (items_of fs c.args.source) ≤ c.loop-number.number = no_item c.items_of-items.result.now (items_of fs c.args.source) c.loop-number.number c.items_of-items.ensures c.loop-number-test.false in
    done c.loop-number.visits.items _ _ (at_drop_all (listed ss (brought ss fs c.args.depth c.args.path.now) c.args.path.now c.args.source c.loop-number.number) (items_of fs c.args.source) c.loop-number.number end) c.loop-number.invariant.few c.loop-number.invariant.whole
