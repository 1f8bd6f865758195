use Rattle.std.proofs.Common.{◌∙◌, ap, map}
use Rattle.std.proofs.lemmas.List.{take_all}
use Rattle.cat_tree.specs.Tree.{defined_of}
use Rattle.cat_tree.proofs.Copies.{meaning_more}
use Rattle.cat_tree.proofs.copying.definitions_copy.Goals as goal

pub loop-definition-init : goal.loop-definition-init
loop-definition-init c = ap (map defined_of) c.new-copies.ensures.items

pub loop-definition-preserved : goal.loop-definition-preserved
loop-definition-preserved c =
    meaning_more defined_of c.loop-definition.copies.items c.push.new.self.items c.deref-definition-items.result.now c.args.first.now.items c.loop-definition.definition-index c.definition-item.result c.in_ok-copy.field-0
    c.deref-definition-items.ensures.value c.loop-definition-test.true c.definition-item.is c.in_ok-copy.ensures c.in_ok-push.ensures.items c.loop-definition.invariant

pub returns : goal.returns
returns c = c.loop-definition.invariant ∙ ap (map defined_of) (take_all c.loop-definition.definition-index c.args.first.now.items (rw c.deref-definition-items.ensures.value at c.loop-definition-test.false))
