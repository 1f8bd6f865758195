use Rattle.std.proofs.Common.{◌≡◌, map, take}
use Rattle.slices.specs.Slots.{slot_value}
use Rattle.slices.proofs.slot.row.Given as goal

abbrev pub invariant-loop-slot : goal.invariant-loop-slot
invariant-loop-slot l = l.values.items ≡ map (slot_value l.graph) (take l.slot-index l.slots)
