use Rattle.keys.specs.Spelling.{spelled_number, spelled_bytes, spelled_list}
use Rattle.keys.proofs.laws.exact_spelling.Goals as goal

pub returns : goal.returns
returns c = record { numbers = spelled_number.exact; names = spelled_bytes.exact; lists = (spelled_list spelled_bytes).exact }
