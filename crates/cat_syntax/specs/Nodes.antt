-- How large a model is. (The limit is 4,096 nodes.)
use Rattle.std.specs.Prelude.{ℕ, ◌+◌, sum_by, length}
use Rattle.cat_tree.specs.Tree.{Term, Terms, union, sequence, difference, intersection, product, complement, plus, star, optional, inverse, domain, range, identity, name, empty_relation, empty_set, universe, call, no_terms, term, Clause, bind, bind_recursively, check, include, show, unshow, File}

-- each operator, name, constant and call is a node
abbrev mutual
  pub term_nodes : Term → ℕ
  term_nodes (union a b) = 1 + term_nodes a + term_nodes b
  term_nodes (sequence a b) = 1 + term_nodes a + term_nodes b
  term_nodes (difference a b) = 1 + term_nodes a + term_nodes b
  term_nodes (intersection a b) = 1 + term_nodes a + term_nodes b
  term_nodes (product a b) = 1 + term_nodes a + term_nodes b
  term_nodes (complement a) = 1 + term_nodes a
  term_nodes (plus a) = 1 + term_nodes a
  term_nodes (star a) = 1 + term_nodes a
  term_nodes (optional a) = 1 + term_nodes a
  term_nodes (inverse a) = 1 + term_nodes a
  term_nodes (domain a) = 1 + term_nodes a
  term_nodes (range a) = 1 + term_nodes a
  term_nodes (identity a) = 1 + term_nodes a
  term_nodes (name x) = 1
  term_nodes empty_relation = 1
  term_nodes empty_set = 1
  term_nodes universe = 1
  term_nodes (call f bs) = 1 + terms_nodes bs

  pub terms_nodes : Terms → ℕ
  terms_nodes no_terms = 0
  terms_nodes (term a bs) = term_nodes a + terms_nodes bs

-- so is each binding, parameter, check and include, and each element of a show or an unshow
abbrev pub clause_nodes : Clause → ℕ
clause_nodes (bind ds) = sum_by (λ d. 1 + length d.parameters + term_nodes d.value) ds
clause_nodes (bind_recursively bs) = sum_by (λ b. 1 + term_nodes b.value) bs
clause_nodes (check flag negated kind a x) = 1 + term_nodes a
clause_nodes (include x) = 1
clause_nodes (show es) = sum_by (λ e. 1 + term_nodes e.value) es
clause_nodes (unshow xs) = length xs

abbrev pub nodes : File → ℕ
nodes f = sum_by clause_nodes f.items
