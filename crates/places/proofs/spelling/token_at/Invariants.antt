use Rattle.std.proofs.Common.{◌≡◌, drop}
use Rattle.places.specs.Spellings.{token_at}
use Rattle.places.proofs.spelling.token_at.Given as goal

abbrev pub invariant-loop-token : goal.invariant-loop-token
invariant-loop-token l = token_at l.tokens l.offset ≡ token_at (drop l.token-index l.tokens) l.offset
