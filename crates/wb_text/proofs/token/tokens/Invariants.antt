use Rattle.std.proofs.Common.{length}
use Rattle.wb_text.proofs.Lists.{Scanned}
use Rattle.wb_text.proofs.token.tokens.Given as goal

abbrev pub invariant-loop-tokens : goal.invariant-loop-tokens
invariant-loop-tokens l = Scanned l.dialect l.text l.tokens.items l.rest

abbrev pub decreases-loop-tokens : goal.decreases-loop-tokens
decreases-loop-tokens l = length l.rest
