use Rattle.std.proofs.Common.{◌∙◌, ap, map}
use Rattle.std.proofs.lemmas.List.{take_all}
use Rattle.cat_tree.specs.Tree.{shown_of}
use Rattle.cat_tree.proofs.Copies.{meaning_more}
use Rattle.cat_tree.proofs.copying.elements_copy.Goals as goal

pub loop-element-init : goal.loop-element-init
loop-element-init c = ap (map shown_of) c.new-copies.ensures.items

pub loop-element-preserved : goal.loop-element-preserved
loop-element-preserved c =
    meaning_more shown_of c.loop-element.copies.items c.push.new.self.items c.deref-element-items.result.now c.args.first.now.items c.loop-element.element-index c.element-item.result c.in_ok-copy.field-0
    c.deref-element-items.ensures.value c.loop-element-test.true c.element-item.is c.in_ok-copy.ensures c.in_ok-push.ensures.items c.loop-element.invariant

pub returns : goal.returns
returns c = c.loop-element.invariant ∙ ap (map shown_of) (take_all c.loop-element.element-index c.args.first.now.items (rw c.deref-element-items.ensures.value at c.loop-element-test.false))
