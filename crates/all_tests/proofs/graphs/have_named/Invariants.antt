use Rattle.std.specs.Prelude.{All}
use Rattle.events.specs.Executions.{IsNamed}
use Rattle.all_tests.proofs.Parts.{AllBelow}
use Rattle.all_tests.proofs.graphs.have_named.Given as goal

abbrev pub invariant-loop-order : goal.invariant-loop-order
invariant-loop-order l = AllBelow (All (IsNamed l.init l.runs)) l.co l.order-index
