use Rattle.slices.specs.Numbers.{HasNumber}
use Rattle.std.specs.Prelude.{Some}
use Rattle.std.proofs.Common.{refl, ◌+◌, ◌^◌, ◌≤◌, length, sym, ◌∙◌, subst}
use Rattle.slices.specs.Slots.{slot_value}
use Rattle.slices.proofs.Mapped.{mapped_all, mapped_many, mapped_more}
use Rattle.slices.proofs.Numbered.{room_less}
use Rattle.slices.proofs.draft.Draft.show.Goals as goal

pub loop-slot-init : goal.loop-slot-init
loop-slot-init c = record { base = c.clear.ensures.base; values = c.clear.ensures.values; number = subst (λ xs. HasNumber c.clear.new.self.base xs (Some 0)) (sym c.clear.ensures.values) (tt, refl) }

pub push-requires : goal.push-requires
push-requires c =
    let at = c.loop-slot in
    let many = mapped_many (slot_value c.args.graph.now) c.args.slots.now at.slot-index at.self.values.items at.invariant.values c.loop-slot-test.true in
    let room = room_less c.args.self.now.base at.slot-index (length c.args.slots.now) c.loop-slot-test.true c.requires.room in
    record {
      number = at.invariant.number;
      room = subst (λ b. b ^ (length at.self.values.items + 1) ≤ 2 ^ 63) (sym at.invariant.base) (subst (λ n. c.args.self.now.base ^ (n + 1) ≤ 2 ^ 63) (sym many) room);
    }

pub loop-slot-preserved : goal.loop-slot-preserved
loop-slot-preserved c = record {
  base = c.push.ensures.base ∙ c.loop-slot.invariant.base;
  values = mapped_more (slot_value c.args.graph.now) c.args.slots.now c.loop-slot.slot-index _ c.value_in.result c.loop-slot.self.values.items c.push.new.self.values.items c.loop-slot.invariant.values c.loop-slot-test.true c.value_in.ensures c.in_ok-number.ensures.values;
  number = c.in_ok-number.ensures.number;
}

pub returns-clause-values : goal.returns-clause-values
returns-clause-values c = mapped_all (slot_value c.args.graph.now) c.args.slots.now c.loop-slot.slot-index c.loop-slot.self.values.items c.loop-slot.invariant.values c.loop-slot-test.false
