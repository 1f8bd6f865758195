use Rattle.std.proofs.Common.{◌≡◌, take, []}
use Rattle.std.specs.Prelude.{fold}
use Rattle.test_places.specs.Limits.{with_location}
use Rattle.test_places.proofs.limits.locations.Given as goal

abbrev pub invariant-loop-mark : goal.invariant-loop-mark
invariant-loop-mark l = l.names.items ≡ fold with_location [] (take l.mark-index l.marks)
