use Rattle.std.proofs.Common.{◌∙◌, ap, map}
use Rattle.std.proofs.lemmas.List.{take_all}
use Rattle.cat_tree.specs.Tree.{clause_of}
use Rattle.cat_tree.proofs.Copies.{meaning_more}
use Rattle.cat_tree.proofs.copying.items_copy.Goals as goal

pub loop-item-init : goal.loop-item-init
loop-item-init c = ap (map clause_of) c.new-copies.ensures.items

pub loop-item-preserved : goal.loop-item-preserved
loop-item-preserved c =
    meaning_more clause_of c.loop-item.copies.items c.push.new.self.items c.deref-item-items.result.now c.args.first.now.items c.loop-item.item-index c.item-item.result c.in_ok-copy.field-0
    c.deref-item-items.ensures.value c.loop-item-test.true c.item-item.is c.in_ok-copy.ensures c.in_ok-push.ensures.items c.loop-item.invariant

pub returns : goal.returns
returns c = c.loop-item.invariant ∙ ap (map clause_of) (take_all c.loop-item.item-index c.args.first.now.items (rw c.deref-item-items.ensures.value at c.loop-item-test.false))
