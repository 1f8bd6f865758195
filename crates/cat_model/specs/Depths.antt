-- How many bodies stand inside one another once each call is replaced. An argument stands in the body that its parameter stands in.
use Rattle.std.specs.Prelude.{ℕ, ◌+◌, max, List, [], ◌∷◌, cond}
use Rattle.std.specs.Str.{bytes_eq}
use Rattle.cat_tree.specs.Tree.{Word, Term, Terms, union, sequence, difference, intersection, product, complement, plus, star, optional, inverse, domain, range, identity, name, empty_relation, empty_set, universe, call, no_terms, term, Bound, Defined, values_in, functions_in, Clause, bind, bind_recursively}
use Rattle.cat_model.specs.Beforehand.{beforehand}

-- how deep what a name stands for is, where its arguments are so deep
abbrev pub Depths : Type 0
Depths = Word → List ℕ → ℕ

abbrev pub deepest : List ℕ → ℕ
deepest [] = 0
deepest (n ∷ ns) = max n (deepest ns)

abbrev mutual
  pub depth : Depths → Term → ℕ
  depth D (union a b) = max (depth D a) (depth D b)
  depth D (sequence a b) = max (depth D a) (depth D b)
  depth D (difference a b) = max (depth D a) (depth D b)
  depth D (intersection a b) = max (depth D a) (depth D b)
  depth D (product a b) = max (depth D a) (depth D b)
  depth D (complement a) = depth D a
  depth D (plus a) = depth D a
  depth D (star a) = depth D a
  depth D (optional a) = depth D a
  depth D (inverse a) = depth D a
  depth D (domain a) = depth D a
  depth D (range a) = depth D a
  depth D (identity a) = depth D a
  depth D (name x) = D x []
  depth D empty_relation = 0
  depth D empty_set = 0
  depth D universe = 0
  depth D (call f bs) = D f (depths D bs)

  pub depths : Depths → Terms → List ℕ
  depths D no_terms = []
  depths D (term a bs) = depth D a ∷ depths D bs

-- D with one more name
abbrev pub with_depth : Depths → Word → (List ℕ → ℕ) → Depths
with_depth D y F x ns = cond (bytes_eq y x) (F ns) (D x ns)

-- what is so deep, unless it is called: a wrong call replaces nothing
abbrev pub just_depth : ℕ → List ℕ → ℕ
just_depth m [] = m
just_depth m (n ∷ ns) = deepest (n ∷ ns)

-- a body is one deeper than its text
abbrev pub applied_depth : Depths → List Word → Term → (rest all : List ℕ) → ℕ
applied_depth D [] t [] all = 1 + depth D t
applied_depth D (x ∷ xs) t (n ∷ ns) all = applied_depth (with_depth D x (just_depth n)) xs t ns all
applied_depth D [] t (n ∷ ns) all = deepest all
applied_depth D (x ∷ xs) t [] all = deepest all

abbrev pub with_value_depths : List Bound → Depths → Depths
with_value_depths [] D = D
with_value_depths (b ∷ bs) D = with_value_depths bs (with_depth D b.name (just_depth 0))

abbrev pub with_function_depths : Depths → List Defined → Depths → Depths
with_function_depths B [] D = D
with_function_depths B (d ∷ ds) D = with_function_depths B ds (with_depth D d.name (λ ns. applied_depth B d.parameters d.value ns ns))

abbrev pub depths_past : Depths → Clause → Depths
depths_past D (bind ds) = with_function_depths D (functions_in ds) (with_value_depths (values_in ds) D)
depths_past D (bind_recursively bs) = with_value_depths bs D
depths_past D i = D

abbrev pub first_depths : Depths
first_depths = with_function_depths (λ x. just_depth 0) beforehand (λ x. just_depth 0)
