use Rattle.std.proofs.Common.{◌∙◌, ap, map}
use Rattle.std.proofs.lemmas.List.{take_all}
use Rattle.cat_tree.specs.Tree.{bound_of}
use Rattle.cat_tree.proofs.Copies.{meaning_more}
use Rattle.cat_tree.proofs.copying.bindings_copy.Goals as goal

pub loop-binding-init : goal.loop-binding-init
loop-binding-init c = ap (map bound_of) c.new-copies.ensures.items

pub loop-binding-preserved : goal.loop-binding-preserved
loop-binding-preserved c =
    meaning_more bound_of c.loop-binding.copies.items c.push.new.self.items c.deref-binding-items.result.now c.args.first.now.items c.loop-binding.binding-index c.binding-item.result c.in_ok-copy.field-0
    c.deref-binding-items.ensures.value c.loop-binding-test.true c.binding-item.is c.in_ok-copy.ensures c.in_ok-push.ensures.items c.loop-binding.invariant

pub returns : goal.returns
returns c = c.loop-binding.invariant ∙ ap (map bound_of) (take_all c.loop-binding.binding-index c.args.first.now.items (rw c.deref-binding-items.ensures.value at c.loop-binding-test.false))
