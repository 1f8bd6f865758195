use Rattle.std.proofs.Common.{◌≡◌, map, take}
use Rattle.slices.specs.Slots.{slot_of}
use Rattle.slices.proofs.slot.slots.Given as goal

abbrev pub invariant-loop-place : goal.invariant-loop-place
invariant-loop-place l = l.slots.items ≡ map (slot_of l.test) (take l.place-index l.places)
