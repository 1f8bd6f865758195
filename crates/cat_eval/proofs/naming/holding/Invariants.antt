use Rattle.std.proofs.Common.{◌≡◌, take}
use Rattle.cat_eval.specs.Lowered.{held_in}
use Rattle.cat_eval.proofs.naming.holding.Given as goal

abbrev pub invariant-loop-bound : goal.invariant-loop-bound
invariant-loop-bound l = l.found ≡ held_in (take l.bound-index l.names) l.name
