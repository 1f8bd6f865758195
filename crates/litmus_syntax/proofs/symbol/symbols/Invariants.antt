use Rattle.std.proofs.Common.{◌≡◌, ◌++◌, length}
use Rattle.std.specs.Prelude.{All}
use Rattle.wb_text.specs.Tokens.{IsWithin}
use Rattle.litmus_syntax.specs.Symbols.{symbols_of}
use Rattle.litmus_syntax.proofs.symbol.symbols.Given as goal

-- the symbols so far, and those of the rest, are all
abbrev pub invariant-loop-token : goal.invariant-loop-token
invariant-loop-token l = record {
  all : l.symbols.items ++ symbols_of l.text l.rest ≡ symbols_of l.text l.tokens;
  within : All (IsWithin (length l.text)) l.rest;
}

abbrev pub decreases-loop-token : goal.decreases-loop-token
decreases-loop-token l = length l.rest
