-- Tests of equality of what stands in lists.
use Rattle.std.proofs.Common.{◌≡◌, List, map, Bool, IsTrue, ◌↔◌, sym}
use Rattle.std.specs.Cmp.Derive.Mapped.{pointwise-map}
use Rattle.std.specs.Cmp.Lexicographic.{pointwise}
use Rattle.cat_tree.specs.Equality.{same_defined, same_bound, same_shown, same_clause, same_file}
use Rattle.cat_tree.specs.Exact.{defined_exact, bound_exact, clause_exact, file_exact}
use Rattle.cat_tree.specs.Tree.{defined_of, bound_of, shown_of, clause_of, Defined, Bound, Clause, File}
use Rattle.cat_tree.specs.declared.tree.Binding.{Binding}
use Rattle.cat_tree.specs.declared.tree.Definition.{Definition}
use Rattle.cat_tree.specs.declared.tree.Element.{Element}
use Rattle.cat_tree.specs.declared.tree.Item.{Item}

pub defined_told : (xs ys : List Definition) → pointwise (λ a b. same_defined (defined_of a) (defined_of b)) xs ys ≡ pointwise same_defined (map defined_of xs) (map defined_of ys)
defined_told xs ys = sym (pointwise-map defined_of same_defined xs ys)

pub bounds_told : (xs ys : List Binding) → pointwise (λ a b. same_bound (bound_of a) (bound_of b)) xs ys ≡ pointwise same_bound (map bound_of xs) (map bound_of ys)
bounds_told xs ys = sym (pointwise-map bound_of same_bound xs ys)

pub shown_told : (xs ys : List Element) → pointwise (λ a b. same_shown (shown_of a) (shown_of b)) xs ys ≡ pointwise same_shown (map shown_of xs) (map shown_of ys)
shown_told xs ys = sym (pointwise-map shown_of same_shown xs ys)

pub clauses_told : (xs ys : List Item) → pointwise (λ a b. same_clause (clause_of a) (clause_of b)) xs ys ≡ pointwise same_clause (map clause_of xs) (map clause_of ys)
clauses_told xs ys = sym (pointwise-map clause_of same_clause xs ys)

-- what a test that was made has told

pub definition_told : (a b : Defined) (r : Bool) → r ≡ same_defined a b → IsTrue r ↔ (a ≡ b)
definition_told a b r e = rw e (defined_exact a b)

pub binding_told : (a b : Bound) (r : Bool) → r ≡ same_bound a b → IsTrue r ↔ (a ≡ b)
binding_told a b r e = rw e (bound_exact a b)

pub clause_told : (a b : Clause) (r : Bool) → r ≡ same_clause a b → IsTrue r ↔ (a ≡ b)
clause_told a b r e = rw e (clause_exact a b)

pub file_told : (a b : File) (r : Bool) → r ≡ same_file a b → IsTrue r ↔ (a ≡ b)
file_told a b r e = rw e (file_exact a b)
