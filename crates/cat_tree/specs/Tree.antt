-- Models as trees, apart from where they lie in memory. (herd7 manual, the cat language.)
use Rattle.std.specs.Prelude.{List, [], ◌∷◌, map, Bool, Option}
use Rattle.std.specs.List.{list_any}
use Rattle.std.specs.Str.{bytes_eq}
pub use Rattle.cat_tree.specs.Terms.{Word, Term, Terms, union, sequence, difference, intersection, product, complement, plus, star, optional, inverse, domain, range, identity, name, empty_relation, empty_set, universe, call, no_terms, term}
use Rattle.cat_tree.specs.Terms.{term_in}
use Rattle.cat_tree.specs.declared.expression.Expression.{Expression}
use Rattle.cat_tree.specs.declared.node.Infix.{Infix}
use Rattle.cat_tree.specs.declared.tree.Binding.{Binding}
use Rattle.cat_tree.specs.declared.tree.Check.{Check}
use Rattle.cat_tree.specs.declared.tree.CheckKind.{CheckKind}
use Rattle.cat_tree.specs.declared.tree.Definition.{Definition}
use Rattle.cat_tree.specs.declared.tree.Element.{Element}
use Rattle.cat_tree.specs.declared.tree.Item.{Item}
use Rattle.cat_tree.specs.declared.tree.Item.TheVariants as items

-- a name with what a `let` binds it to: a value, or a function where there are parameters
pub record Defined : Type 0 where
  pub name : Word
  pub parameters : List Word
  pub value : Term

-- a name with what a `let rec` binds it to
pub record Bound : Type 0 where
  pub name : Word
  pub value : Term

-- the values that a `let` binds, and the functions

abbrev pub value_if : List Word → Defined → List Bound → List Bound
value_if [] d bs = record { name = d.name; value = d.value } ∷ bs
value_if (x ∷ xs) d bs = bs

abbrev pub values_in : List Defined → List Bound
values_in [] = []
values_in (d ∷ ds) = value_if d.parameters d (values_in ds)

abbrev pub function_if : List Word → Defined → List Defined → List Defined
function_if [] d fs = fs
function_if (x ∷ xs) d fs = d ∷ fs

abbrev pub functions_in : List Defined → List Defined
functions_in [] = []
functions_in (d ∷ ds) = function_if d.parameters d (functions_in ds)

-- an element of a show, with the name that it gets
pub record Shown : Type 0 where
  pub value : Term
  pub alias : Option Word

-- an item
pub data Clause : Type 0 where
  bind : List Defined → Clause
  bind_recursively : List Bound → Clause
  check : (flag negated : Bool) → CheckKind → Term → (alias : Option Word) → Clause
  include : Word → Clause
  show : List Shown → Clause
  unshow : List Word → Clause

-- a model
pub record File : Type 0 where
  pub title : Option Word
  pub items : List Clause

-- the trees of the values in memory

abbrev pub term_of : Expression → Term
term_of e = term_in e.nodes.items

abbrev pub pair_of : Infix × Expression → Infix × Term
pair_of x = (x.0, term_of x.1)

abbrev pub defined_of : Definition → Defined
defined_of d = record { name = d.name; parameters = d.parameters.items; value = term_of d.value }

abbrev pub bound_of : Binding → Bound
bound_of b = record { name = b.name; value = term_of b.value }

abbrev pub shown_of : Element → Shown
shown_of e = record { value = term_of e.expression; alias = e.name }

abbrev pub check_of : Check → Clause
check_of c = check c.flag c.negated c.kind (term_of c.expression) c.name

abbrev pub clause_of : Item → Clause
clause_of (items.Let v) = bind (map defined_of v.items)
clause_of (items.LetRec v) = bind_recursively (map bound_of v.items)
clause_of (items.Check c) = check_of c
clause_of (items.Include x) = include x
clause_of (items.Show v) = show (map shown_of v.items)
clause_of (items.Unshow v) = unshow v.items

-- whether x is among the names that a group binds
abbrev pub is_bound : List Bound → Word → Bool
is_bound bs x = list_any (λ b. bytes_eq b.name x) bs
