use Rattle.std.proofs.Common.{◌≡◌, drop}
use Rattle.places.specs.Spellings.{first_spelled}
use Rattle.places.proofs.spelling.first_spelled.Given as goal

abbrev pub invariant-loop-token : goal.invariant-loop-token
invariant-loop-token l = first_spelled l.text l.tokens l.word ≡ first_spelled l.text (drop l.token-index l.tokens) l.word
