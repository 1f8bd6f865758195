use Rattle.std.proofs.Common.{◌≡◌, map, take}
use Rattle.slices.specs.Numbers.{HasNumber}
use Rattle.slices.specs.Slots.{slot_value}
use Rattle.slices.proofs.draft.Draft.show.Given as goal

abbrev pub invariant-loop-slot : goal.invariant-loop-slot
invariant-loop-slot l = record {
  base : l.self.base ≡ l.fn.self.base;
  values : l.self.values.items ≡ map (slot_value l.graph) (take l.slot-index l.slots);
  number : HasNumber l.self.base l.self.values.items l.number;
}
