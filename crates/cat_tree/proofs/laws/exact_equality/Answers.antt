use Rattle.cat_tree.specs.Exact.{term_exact, defined_exact, bound_exact, shown_exact, kind_exact, clause_exact, file_exact}
use Rattle.cat_tree.proofs.laws.exact_equality.Goals as goal

pub returns : goal.returns
returns c = record {
  expressions = term_exact;
  definitions = defined_exact;
  bindings = bound_exact;
  elements = shown_exact;
  kinds = kind_exact;
  items = clause_exact;
  files = file_exact;
}
