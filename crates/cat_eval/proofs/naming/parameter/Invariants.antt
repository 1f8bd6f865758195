use Rattle.std.proofs.Common.{◌≡◌, take}
use Rattle.cat_eval.specs.Lowered.{index_in}
use Rattle.cat_eval.proofs.naming.parameter.Given as goal

abbrev pub invariant-loop-number : goal.invariant-loop-number
invariant-loop-number l = l.found ≡ index_in (take l.number l.parameters) l.name
