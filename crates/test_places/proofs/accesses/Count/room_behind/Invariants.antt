use Rattle.std.proofs.Common.{◌≡◌, ◌-◌, map, drop}
use Rattle.litmus_syntax.specs.Drafts.{listing_of}
use Rattle.test_places.specs.Accesses.{threads_among}
use Rattle.test_places.proofs.accesses.Count.room_behind.Given as goal

-- what is left takes off what all of it takes off
abbrev pub invariant-loop-body : goal.invariant-loop-body
invariant-loop-body l = l.count.room - threads_among l.count.left (map listing_of (drop l.body-index l.bodies)) ≡ l.fn.self.room - threads_among l.fn.self.left (map listing_of l.bodies)
