use Rattle.std.proofs.Common.{◌≡◌, ◌++◌, drop}
use Rattle.cat_syntax.specs.Symbols.{symbols_of}
use Rattle.cat_syntax.proofs.symbol.symbols.Given as goal

abbrev pub invariant-loop-token : goal.invariant-loop-token
invariant-loop-token l = l.symbols.items ++ symbols_of l.text (drop l.token-index l.tokens) ≡ symbols_of l.text l.tokens
