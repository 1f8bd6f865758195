use Rattle.std.proofs.Common.{◌≡◌, drop}
use Rattle.cat_model.specs.Along.{first_some}
use Rattle.cat_model.proofs.naming.first_of.Given as goal

abbrev pub invariant-loop-name : goal.invariant-loop-name
invariant-loop-name l = first_some (drop l.name-index l.names) ≡ first_some l.names
