use Rattle.std.proofs.Common.{◌+◌, ◌∙◌, ap, take}
use Rattle.std.proofs.lemmas.List.{take_all}
use Rattle.cat_model.proofs.Listed.{front_more, told, told_more}
use Rattle.cat_model.proofs.places.each.Goals as goal

pub loop-name-init : goal.loop-name-init
loop-name-init c = ap told c.new-each.ensures.items

pub loop-name-preserved : goal.loop-name-preserved
loop-name-preserved c =
    told_more c.loop-name.each.items c.push.new.self.items _ (take c.loop-name.name-index c.args.names.now) (take (c.loop-name.name-index + 1) c.args.names.now) c.in_ok-push.ensures.items
    (front_more c.args.names.now c.loop-name.name-index c.name-item.result c.loop-name-test.true c.name-item.is) c.loop-name.invariant

pub returns : goal.returns
returns c = c.loop-name.invariant ∙ take_all c.loop-name.name-index c.args.names.now c.loop-name-test.false
