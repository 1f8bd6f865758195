use Rattle.std.proofs.Common.{◌≡◌, drop}
use Rattle.witness.specs.Labels.{bound_by}
use Rattle.witness.proofs.labelling.Step.bind_entries.Given as goal

abbrev pub invariant-loop-entry : goal.invariant-loop-entry
invariant-loop-entry l = bound_by l.self.from l.self.to (drop l.entry-index l.entries) l.names.items ≡ bound_by l.self.from l.self.to l.fn.entries l.fn.names.items
