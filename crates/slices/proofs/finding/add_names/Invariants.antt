use Rattle.std.proofs.Common.{take}
use Rattle.slices.specs.Sums.{IsUnion}
use Rattle.slices.proofs.finding.add_names.Given as goal

abbrev pub invariant-loop-name : goal.invariant-loop-name
invariant-loop-name l = IsUnion l.fn.flags.items (take l.name-index l.names) l.flags.items
