use Rattle.std.proofs.Common.{◌≡◌, take, length}
use Rattle.events.proofs.run.overwrite.Given as goal

abbrev pub invariant-loop-place : goal.invariant-loop-place
invariant-loop-place l = (length l.list.items ≡ length l.events) × (take l.place l.list.items ≡ take l.place l.events)
