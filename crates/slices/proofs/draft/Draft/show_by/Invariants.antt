use Rattle.std.proofs.Common.{◌≡◌, map, take}
use Rattle.slices.specs.Numbers.{HasNumber}
use Rattle.slices.specs.Slots.{slot_by}
use Rattle.slices.proofs.draft.Draft.show_by.Given as goal

abbrev pub invariant-loop-slot : goal.invariant-loop-slot
invariant-loop-slot l = record {
  base : l.self.base ≡ l.fn.self.base;
  values : l.self.values.items ≡ map (slot_by l.graph l.lasts) (take l.slot-index l.slots);
  number : HasNumber l.self.base l.self.values.items l.number;
}
