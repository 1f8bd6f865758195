use Rattle.std.proofs.Common.{◌≡◌}
use Rattle.cat_model.specs.Classing.{own_classes}
use Rattle.cat_model.proofs.schemes.own_classes.Given as goal

abbrev pub invariant-loop-place : goal.invariant-loop-place
invariant-loop-place l = l.items.items ≡ own_classes l.place
