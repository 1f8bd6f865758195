use Rattle.cat_tree.specs.Spellings.{spelled_term, spelled_defined, spelled_bound, spelled_shown, spelled_clause}
use Rattle.cat_tree.proofs.laws.exact_spelling.Goals as goal

pub returns : goal.returns
returns c = record {
  expressions = spelled_term.exact;
  definitions = spelled_defined.exact;
  bindings = spelled_bound.exact;
  elements = spelled_shown.exact;
  items = spelled_clause.exact;
}
