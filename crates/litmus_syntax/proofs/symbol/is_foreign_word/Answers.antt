use Rattle.std.proofs.Common.{◌∙◌}
use Rattle.litmus_syntax.specs.Symbols.{foreign_words}
use Rattle.litmus_syntax.proofs.Spelled.{any_same}
use Rattle.litmus_syntax.proofs.symbol.is_foreign_word.Goals as goal

pub returns : goal.returns
returns c = c.contains.ensures.value ∙ any_same foreign_words c.args.bytes.now
