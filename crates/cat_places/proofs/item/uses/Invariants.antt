use Rattle.std.proofs.Common.{◌≡◌, ◌++◌, drop}
use Rattle.cat_places.specs.Own.{uses, uses_from}
use Rattle.cat_places.proofs.item.uses.Given as goal

abbrev pub invariant-loop-token : goal.invariant-loop-token
invariant-loop-token l = l.uses.items ++ uses_from l.text l.name l.at (drop l.token-index l.tokens) ≡ uses l.text l.name l.tokens
