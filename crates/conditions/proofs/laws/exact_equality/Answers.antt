use Rattle.conditions.specs.Exact.{place_exact, binding_exact, formula_exact, condition_exact}
use Rattle.conditions.proofs.laws.exact_equality.Goals as goal

pub returns : goal.returns
returns c = record {
  places = place_exact;
  bindings = binding_exact;
  formulas = formula_exact;
  conditions = condition_exact;
}
