use Rattle.journal.proofs.Exact.{returned_exact, command_exact, said_exact, replacement_exact, refusal_exact, loaded_exact, row_exact, reply_exact}
use Rattle.journal.proofs.laws.exact_equality.Goals as goal

pub returns : goal.returns
returns c = record {
  returned = returned_exact;
  commands = command_exact;
  said = said_exact;
  replacements = replacement_exact;
  refusals = refusal_exact;
  loaded = loaded_exact;
  rows = row_exact;
  replies = reply_exact;
}
