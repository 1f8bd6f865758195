use Rattle.std.proofs.Common.{◌∙◌, sym, ap}
use Rattle.std.specs.List.{each_same}
use Rattle.slices.specs.Fronts.{front_of}
use Rattle.slices.proofs.row.Row.copy.Goals as goal

pub invariant_of-result : goal.invariant_of-result
invariant_of-result c = c.self.invariant ∙ ap front_of (sym (each_same c.self.inside.values.items c.in_ok-clone.field-0.items c.in_ok-clone.ensures.cases.0))
