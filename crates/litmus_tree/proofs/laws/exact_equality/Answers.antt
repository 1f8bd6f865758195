use Rattle.litmus_tree.specs.Exact.{parameter_exact, term_exact, action_exact, right_exact, declared_exact, step_exact, program_exact, litmus_exact}
use Rattle.litmus_tree.proofs.laws.exact_equality.Goals as goal

pub returns : goal.returns
returns c = record {
  parameters = parameter_exact;
  expressions = term_exact;
  calls = action_exact;
  right_sides = right_exact;
  declarators = declared_exact;
  statements = step_exact;
  threads = program_exact;
  tests = litmus_exact;
}
