-- Examples, computed.
use Rattle.std.specs.Prelude.{◌≡◌, [], ◌∷◌, codes, refl, Some, None}
use Rattle.cat_tree.specs.Tree.{Term, Clause, name, union, product, difference, complement, identity, empty_relation, call, no_terms, term, bind}
use Rattle.cat_model.specs.Denials.{marks, marks_past, first_marks, grouped, denied_in}
use Rattle.cat_model.specs.Depths.{depth, depths_past, first_depths}
use Rattle.cat_model.specs.Named.{named_of, written, spelling_of}
use Rattle.cat_model.specs.Names.{names}
use Rattle.cat_model.specs.Sizes.{size, sizes_past, first_sizes}
use Rattle.cat_model.specs.Sorts.{sort, sorts_past, first_sorts}
use Rattle.cat_model.specs.declared.sort.Sort.TheVariants.{Relation}

pub initial_writes_have_two_names : named_of (codes "I") ≡ named_of (codes "IW")
unfolding named_of written spelling_of
initial_writes_have_two_names = refl

pub po_loc_is_a_relation : sort first_sorts (name (codes "po-loc")) ≡ Some Relation
unfolding named_of written spelling_of
po_loc_is_a_relation = refl

-- let W = po
abbrev W_is_po : Clause
W_is_po = bind (record { name = codes "W"; parameters = []; value = name (codes "po") } ∷ [])

pub a_binding_hides : sort (sorts_past first_sorts W_is_po) (name (codes "W")) ≡ Some Relation
unfolding named_of written spelling_of
a_binding_hides = refl

-- W * R
pub a_product_is_a_relation : sort first_sorts (product (name (codes "W")) (name (codes "R"))) ≡ Some Relation
unfolding named_of written spelling_of
a_product_is_a_relation = refl

abbrev a : Term
a = name (codes "a")

-- f(a)
abbrev f : Term → Term
f t = call (codes "f") (term t no_terms)

-- let f(x) = [x]
abbrev f_is_identity : Clause
f_is_identity = bind (record { name = codes "f"; parameters = codes "x" ∷ []; value = identity (name (codes "x")) } ∷ [])

pub identity_of_a_set : sort (sorts_past first_sorts f_is_identity) (f (name (codes "W"))) ≡ Some Relation
unfolding named_of written spelling_of
identity_of_a_set = refl

pub no_identity_of_a_relation : sort (sorts_past first_sorts f_is_identity) (f (name (codes "po"))) ≡ None
unfolding named_of written spelling_of
no_identity_of_a_relation = refl

pub wrong_number_of_arguments : sort (sorts_past first_sorts f_is_identity) (call (codes "f") (term (name (codes "W")) (term (name (codes "R")) no_terms))) ≡ None
unfolding named_of written spelling_of
wrong_number_of_arguments = refl

pub no_value_of_a_function : sort (sorts_past first_sorts f_is_identity) (name (codes "f")) ≡ None
no_value_of_a_function = refl

-- fencerel(F)
pub fencerel_is_beforehand : sort first_sorts (call (codes "fencerel") (term (name (codes "F")) no_terms)) ≡ Some Relation
unfolding named_of written spelling_of
fencerel_is_beforehand = refl

pub fencerel_has_seven_nodes : size first_sizes (call (codes "fencerel") (term (name (codes "F")) no_terms)) ≡ 7
fencerel_has_seven_nodes = refl

-- let f(x) = x | x
abbrev f_doubles : Clause
f_doubles = bind (record { name = codes "f"; parameters = codes "x" ∷ []; value = union (name (codes "x")) (name (codes "x")) } ∷ [])

pub doubled_twice : size (sizes_past first_sizes f_doubles) (f (f empty_relation)) ≡ 7
doubled_twice = refl

pub two_deep : depth (depths_past first_depths f_doubles) (f (f empty_relation)) ≡ 2
two_deep = refl

-- let f(x) = 0: what isn't put in counts nothing
abbrev f_drops : Clause
f_drops = bind (record { name = codes "f"; parameters = codes "x" ∷ []; value = empty_relation } ∷ [])

pub one_node : size (sizes_past first_sizes f_drops) (f (union a a)) ≡ 1
one_node = refl

pub one_deep : depth (depths_past first_depths f_drops) (f (f a)) ≡ 1
one_deep = refl

-- a wrong call and its arguments
pub four_nodes : size first_sizes (f (union a a)) ≡ 4
four_nodes = refl

-- a \ (b | c)
pub right_of_a_difference : names (difference a (union (name (codes "b")) (name (codes "c")))) ≡ codes "a" ∷ codes "b" ∷ codes "c" ∷ []
right_of_a_difference = refl

-- let f(x) = ~x let rec r = f(r)
abbrev f_denies : Clause
f_denies = bind (record { name = codes "f"; parameters = codes "x" ∷ []; value = complement (name (codes "x")) } ∷ [])

pub denied_in_a_body : denied_in (marks (grouped (record { name = codes "r"; value = f (name (codes "r")) } ∷ []) (marks_past first_marks f_denies)) (f (name (codes "r")))) ≡ codes "r" ∷ []
denied_in_a_body = refl
