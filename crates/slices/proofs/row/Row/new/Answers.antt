use Rattle.std.proofs.Common.{◌∙◌, ap}
use Rattle.slices.specs.Fronts.{front_of}
use Rattle.slices.proofs.row.Row.new.Goals as goal

pub invariant_of-result : goal.invariant_of-result
invariant_of-result c = c.front_of-front.ensures ∙ ap front_of c.deref.ensures.value
