use Rattle.std.proofs.Common.{◌≡◌, take}
use Rattle.events.proofs.run.are_same_events.Given as goal

-- what was compared is the same
abbrev pub invariant-loop-place : goal.invariant-loop-place
invariant-loop-place l = take l.place l.first ≡ take l.place l.second
