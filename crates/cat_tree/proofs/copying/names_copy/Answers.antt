use Rattle.std.proofs.Common.{◌∙◌}
use Rattle.std.proofs.lemmas.List.{take_all}
use Rattle.cat_tree.proofs.Copies.{copy_more}
use Rattle.cat_tree.proofs.copying.names_copy.Goals as goal

pub loop-name-preserved : goal.loop-name-preserved
loop-name-preserved c =
    copy_more c.loop-name.copies.items c.push.new.self.items c.deref-name-items.result.now c.args.first.now.items c.loop-name.name-index c.name-item.result c.in_ok-copy.field-0
    c.deref-name-items.ensures.value c.loop-name-test.true c.name-item.is c.in_ok-copy.ensures c.in_ok-push.ensures.items c.loop-name.invariant

pub returns : goal.returns
returns c = c.loop-name.invariant ∙ take_all c.loop-name.name-index c.args.first.now.items (rw c.deref-name-items.ensures.value at c.loop-name-test.false)
