-- How many nodes an expression comes to with each call replaced by its function's body, its arguments put in.
use Rattle.std.specs.Prelude.{ℕ, ◌+◌, List, [], ◌∷◌, cond}
use Rattle.std.specs.Str.{bytes_eq}
use Rattle.cat_tree.specs.Tree.{Word, Term, Terms, union, sequence, difference, intersection, product, complement, plus, star, optional, inverse, domain, range, identity, name, empty_relation, empty_set, universe, call, no_terms, term, Bound, Defined, values_in, functions_in, Clause, bind, bind_recursively}
use Rattle.cat_model.specs.Beforehand.{beforehand}

-- what a name comes to, where its arguments come to so much
abbrev pub Sizes : Type 0
Sizes = Word → List ℕ → ℕ

abbrev pub total : List ℕ → ℕ
total [] = 0
total (n ∷ ns) = n + total ns

-- a wrong call counts one node, and its arguments
abbrev pub wrong : List ℕ → ℕ
wrong ns = 1 + total ns

abbrev mutual
  pub size : Sizes → Term → ℕ
  size Z (union a b) = 1 + size Z a + size Z b
  size Z (sequence a b) = 1 + size Z a + size Z b
  size Z (difference a b) = 1 + size Z a + size Z b
  size Z (intersection a b) = 1 + size Z a + size Z b
  size Z (product a b) = 1 + size Z a + size Z b
  size Z (complement a) = 1 + size Z a
  size Z (plus a) = 1 + size Z a
  size Z (star a) = 1 + size Z a
  size Z (optional a) = 1 + size Z a
  size Z (inverse a) = 1 + size Z a
  size Z (domain a) = 1 + size Z a
  size Z (range a) = 1 + size Z a
  size Z (identity a) = 1 + size Z a
  size Z (name x) = Z x []
  size Z empty_relation = 1
  size Z empty_set = 1
  size Z universe = 1
  size Z (call f bs) = Z f (sizes Z bs)

  pub sizes : Sizes → Terms → List ℕ
  sizes Z no_terms = []
  sizes Z (term a bs) = size Z a ∷ sizes Z bs

-- Z with one more name
abbrev pub with_size : Sizes → Word → (List ℕ → ℕ) → Sizes
with_size Z y F x ns = cond (bytes_eq y x) (F ns) (Z x ns)

-- what stands for m nodes, unless it is called
abbrev pub just : ℕ → List ℕ → ℕ
just m [] = m
just m (n ∷ ns) = wrong (n ∷ ns)

-- a body whose parameters come to so much; a wrong number of arguments makes a wrong call
abbrev pub applied_size : Sizes → List Word → Term → (rest all : List ℕ) → ℕ
applied_size Z [] t [] all = size Z t
applied_size Z (x ∷ xs) t (n ∷ ns) all = applied_size (with_size Z x (just n)) xs t ns all
applied_size Z [] t (n ∷ ns) all = wrong all
applied_size Z (x ∷ xs) t [] all = wrong all

abbrev pub with_value_sizes : List Bound → Sizes → Sizes
with_value_sizes [] Z = Z
with_value_sizes (b ∷ bs) Z = with_value_sizes bs (with_size Z b.name (just 1))

-- functions that are bound where names come to B
abbrev pub with_function_sizes : Sizes → List Defined → Sizes → Sizes
with_function_sizes B [] Z = Z
with_function_sizes B (d ∷ ds) Z = with_function_sizes B ds (with_size Z d.name (λ ns. applied_size B d.parameters d.value ns ns))

abbrev pub sizes_past : Sizes → Clause → Sizes
sizes_past Z (bind ds) = with_function_sizes Z (functions_in ds) (with_value_sizes (values_in ds) Z)
sizes_past Z (bind_recursively bs) = with_value_sizes bs Z
sizes_past Z i = Z

-- beforehand each name is a value's
abbrev pub first_sizes : Sizes
first_sizes = with_function_sizes (λ x. just 1) beforehand (λ x. just 1)
