use Rattle.std.proofs.Common.{◌∙◌, ap}
use Rattle.slices.specs.Slots.{slot_of}
use Rattle.slices.proofs.Mapped.{mapped_more, mapped_all}
use Rattle.slices.proofs.slot.slots.Goals as goal

pub loop-place-init : goal.loop-place-init
loop-place-init c = c.in_ok-slots.ensures.items

pub loop-place-preserved : goal.loop-place-preserved
loop-place-preserved c =
    let f = slot_of c.args.test.now in
    mapped_more f c.args.places.now c.loop-place.place-index c.place-item.result c.of.result c.loop-place.slots.items c.push.new.self.items c.loop-place.invariant c.loop-place-test.true (c.of.ensures ∙ ap f c.place-item.is) c.in_ok-push.ensures.items

pub returns : goal.returns
returns c = mapped_all (slot_of c.args.test.now) c.args.places.now c.loop-place.place-index c.loop-place.slots.items c.loop-place.invariant c.loop-place-test.false
