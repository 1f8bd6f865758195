use Rattle.litmus_tree.specs.Spellings.{spelled_parameter, spelled_declared, spelled_program, spelled_litmus}
use Rattle.litmus_tree.proofs.laws.exact_spelling.Goals as goal

pub returns : goal.returns
returns c = record {
  parameters = spelled_parameter.exact;
  declarators = spelled_declared.exact;
  threads = spelled_program.exact;
  tests = spelled_litmus.exact;
}
