use Rattle.std.proofs.Common.{arith}
use Rattle.cat_eval.proofs.Grown.{grown_none, grown_next, grown_more, grown_done}
use Rattle.cat_eval.proofs.growing.grow.Goals as goal

pub loop-item-init : goal.loop-item-init
loop-item-init c = grown_none c.args.change c.requires.0 c.args.steps.now c.args.items.now c.in_ok-growths.growths.items c.requires.1 c.in_ok-growths.ensures.items

pub grow_item-requires : goal.grow_item-requires
grow_item-requires c =
    let k = grown_next c.args.change c.args.steps.now c.args.items.now c.loop-item.growths.items c.loop-item.item-index c.item-item.result c.loop-item.invariant c.loop-item-test.true c.item-item.is in
    let a = k.before in
    let b = k.order in
    record { order = omega (arith, a, b); inside = k.inside; room = k.room; going = c.loop-item.invariant.going }

pub loop-item-preserved : goal.loop-item-preserved
loop-item-preserved c =
    let k = grown_next c.args.change c.args.steps.now c.args.items.now c.loop-item.growths.items c.loop-item.item-index c.item-item.result c.loop-item.invariant c.loop-item-test.true c.item-item.is in
    grown_more c.args.change c.args.steps.now c.args.items.now c.loop-item.growths.items c.grow_item.new.growths.items c.loop-item.item-index c.item-item.result c.loop-item.invariant k c.loop-item-test.true c.item-item.is
    c.in_ok-grow_item.ensures.long c.in_ok-grow_item.ensures.going c.in_ok-grow_item.ensures.more c.in_ok-grow_item.ensures.group

pub returns : goal.returns
returns c = grown_done c.args.change c.args.steps.now c.args.items.now c.loop-item.growths.items c.loop-item.item-index c.loop-item.invariant c.loop-item-test.false
