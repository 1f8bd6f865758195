use Rattle.std.proofs.Common.{◌+◌, ◌++◌, ◌∙◌, ap, append-nil, drop, get_or, map, sym}
use Rattle.std.proofs.lemmas.List.{at_drop_all, drop_more}
use Rattle.cat_tree.specs.Tree.{clause_of}
use Rattle.cat_places.specs.Blame.{items_put as put_of}
use Rattle.cat_places.proofs.Blaming.{no_visit, put_more}
use Rattle.cat_places.proofs.blame.items_put.Goals as goal

pub loop-visit-init : goal.loop-visit-init
loop-visit-init c = ap (λ l. map clause_of l ++ put_of c.args.files.now c.args.visits.now) c.new-items.ensures.items

pub loop-visit-preserved : goal.loop-visit-preserved
loop-visit-preserved c =
    let vs = c.args.visits.now in
    let i = c.loop-visit.visit-index in
    put_more c.args.files.now (drop i vs) (drop (i + 1) vs) (get_or vs i no_visit) (map clause_of c.loop-visit.items.items) (map clause_of c.put.new.items.items) _ (drop_more vs i no_visit c.loop-visit-test.true) c.in_ok-put.ensures c.loop-visit.invariant

pub returns : goal.returns
returns c =
    let found = map clause_of c.loop-visit.items.items in
    sym (append-nil found) ∙ ap (λ l. found ++ l) (sym (at_drop_all (put_of c.args.files.now) c.args.visits.now c.loop-visit.visit-index c.loop-visit-test.false)) ∙ c.loop-visit.invariant
