-- Which names of a recursive group stand in an expression once each call is replaced, and which of them under a complement or to the
-- right of a difference, in reading order.
use Rattle.std.specs.Prelude.{List, [], ◌∷◌, ◌++◌, map, Bool, true, false, cond}
use Rattle.std.specs.Str.{bytes_eq}
use Rattle.cat_tree.specs.Tree.{Word, Term, Terms, union, sequence, difference, intersection, product, complement, plus, star, optional, inverse, domain, range, identity, name, empty_relation, empty_set, universe, call, no_terms, term, Bound, Defined, values_in, functions_in, Clause, bind, bind_recursively}
use Rattle.cat_model.specs.Beforehand.{beforehand}

-- a name that stands in a text, and whether it is denied there
pub record Mark : Type 0 where
  pub name : Word
  pub denied : Bool

abbrev pub denied_mark : Mark → Mark
denied_mark m = record { name = m.name; denied = true }

abbrev pub deny : List Mark → List Mark
deny ms = map denied_mark ms

-- what stands in what a name stands for, where this stands in its arguments
abbrev pub Marking : Type 0
Marking = Word → List (List Mark) → List Mark

abbrev mutual
  pub marks : Marking → Term → List Mark
  marks M (union a b) = marks M a ++ marks M b
  marks M (sequence a b) = marks M a ++ marks M b
  marks M (difference a b) = marks M a ++ deny (marks M b)
  marks M (intersection a b) = marks M a ++ marks M b
  marks M (product a b) = marks M a ++ marks M b
  marks M (complement a) = deny (marks M a)
  marks M (plus a) = marks M a
  marks M (star a) = marks M a
  marks M (optional a) = marks M a
  marks M (inverse a) = marks M a
  marks M (domain a) = marks M a
  marks M (range a) = marks M a
  marks M (identity a) = marks M a
  marks M (name x) = M x []
  marks M empty_relation = []
  marks M empty_set = []
  marks M universe = []
  marks M (call f bs) = M f (all_marks M bs)

  pub all_marks : Marking → Terms → List (List Mark)
  all_marks M no_terms = []
  all_marks M (term a bs) = marks M a ∷ all_marks M bs

-- M with one more name
abbrev pub with_mark : Marking → Word → (List (List Mark) → List Mark) → Marking
with_mark M y F x ms = cond (bytes_eq y x) (F ms) (M x ms)

abbrev pub applied_marks : Marking → List Word → Term → List (List Mark) → List Mark
applied_marks M [] t ms = marks M t
applied_marks M (x ∷ xs) t (m ∷ ms) = applied_marks (with_mark M x (λ _. m)) xs t ms
applied_marks M (x ∷ xs) t [] = []

-- values that are bound before the group: none of its names stands in them
abbrev pub with_value_marks : List Bound → Marking → Marking
with_value_marks [] M = M
with_value_marks (b ∷ bs) M = with_value_marks bs (with_mark M b.name (λ _. []))

abbrev pub with_function_marks : Marking → List Defined → Marking → Marking
with_function_marks B [] M = M
with_function_marks B (d ∷ ds) M = with_function_marks B ds (with_mark M d.name (applied_marks B d.parameters d.value))

abbrev pub marks_past : Marking → Clause → Marking
marks_past M (bind ds) = with_function_marks M (functions_in ds) (with_value_marks (values_in ds) M)
marks_past M (bind_recursively bs) = with_value_marks bs M
marks_past M i = M

abbrev pub first_marks : Marking
first_marks = with_function_marks (λ x ms. []) beforehand (λ x ms. [])

-- in the group each of its names stands for itself
abbrev pub grouped : List Bound → Marking → Marking
grouped [] M = M
grouped (b ∷ bs) M = grouped bs (with_mark M b.name (λ _. record { name = b.name; denied = false } ∷ []))

abbrev pub denied_if : Bool → Word → List Word → List Word
denied_if true x xs = x ∷ xs
denied_if false x xs = xs

-- the names that are denied somewhere
abbrev pub denied_in : List Mark → List Word
denied_in [] = []
denied_in (m ∷ ms) = denied_if m.denied m.name (denied_in ms)
