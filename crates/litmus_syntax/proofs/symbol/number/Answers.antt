use Rattle.std.proofs.Common.{rules}
use Rattle.litmus_syntax.proofs.Spelled.{number_of}
use Rattle.litmus_syntax.proofs.symbol.number.Goals as goal

pub returns : goal.returns
returns c = search (rules, number_of)
