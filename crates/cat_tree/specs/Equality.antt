-- The tests that `==` makes of models and of their parts.
use Rattle.std.specs.Prelude.{◌&&◌, Bool, true, false, Option}
use Rattle.std.specs.Bool.{beq}
use Rattle.std.specs.Cmp.Lexicographic.{pointwise}
use Rattle.std.specs.Option.{option_eq}
use Rattle.std.specs.Str.{bytes_eq}
use Rattle.cat_tree.specs.declared.tree.CheckKind.{CheckKind}
use Rattle.cat_tree.specs.declared.tree.CheckKind.TheVariants as kinds
use Rattle.cat_tree.specs.Tree.{Word, Term, Terms, union, sequence, difference, intersection, product, complement, plus, star, optional, inverse, domain, range, identity, name, empty_relation, empty_set, universe, call, no_terms, term, Defined, Bound, Shown, Clause, bind, bind_recursively, check, include, show, unshow, File}

abbrev mutual
  pub same_term : Term → Term → Bool
  same_term (union a b) (union c d) = same_term a c && same_term b d
  same_term (sequence a b) (sequence c d) = same_term a c && same_term b d
  same_term (difference a b) (difference c d) = same_term a c && same_term b d
  same_term (intersection a b) (intersection c d) = same_term a c && same_term b d
  same_term (product a b) (product c d) = same_term a c && same_term b d
  same_term (complement a) (complement b) = same_term a b
  same_term (plus a) (plus b) = same_term a b
  same_term (star a) (star b) = same_term a b
  same_term (optional a) (optional b) = same_term a b
  same_term (inverse a) (inverse b) = same_term a b
  same_term (domain a) (domain b) = same_term a b
  same_term (range a) (range b) = same_term a b
  same_term (identity a) (identity b) = same_term a b
  same_term (name x) (name y) = bytes_eq x y
  same_term empty_relation empty_relation = true
  same_term empty_set empty_set = true
  same_term universe universe = true
  same_term (call f as') (call g bs) = bytes_eq f g && same_terms as' bs
  same_term a b = false

  pub same_terms : Terms → Terms → Bool
  same_terms no_terms no_terms = true
  same_terms (term a as') (term b bs) = same_term a b && same_terms as' bs
  same_terms as' bs = false

abbrev pub same_alias : Option Word → Option Word → Bool
same_alias = option_eq bytes_eq

abbrev pub same_defined : Defined → Defined → Bool
same_defined a b = bytes_eq a.name b.name && (pointwise bytes_eq a.parameters b.parameters && same_term a.value b.value)

abbrev pub same_bound : Bound → Bound → Bool
same_bound a b = bytes_eq a.name b.name && same_term a.value b.value

abbrev pub same_shown : Shown → Shown → Bool
same_shown a b = same_term a.value b.value && same_alias a.alias b.alias

abbrev pub same_kind : CheckKind → CheckKind → Bool
same_kind kinds.Acyclic kinds.Acyclic = true
same_kind kinds.Irreflexive kinds.Irreflexive = true
same_kind kinds.Empty kinds.Empty = true
same_kind a b = false

abbrev pub same_clause : Clause → Clause → Bool
same_clause (bind ds) (bind es) = pointwise same_defined ds es
same_clause (bind_recursively bs) (bind_recursively cs) = pointwise same_bound bs cs
same_clause (check f n k a x) (check g m l b y) = beq f g && (beq n m && (same_kind k l && (same_term a b && same_alias x y)))
same_clause (include x) (include y) = bytes_eq x y
same_clause (show es) (show fs) = pointwise same_shown es fs
same_clause (unshow xs) (unshow ys) = pointwise bytes_eq xs ys
same_clause a b = false

abbrev pub same_file : File → File → Bool
same_file a b = same_alias a.title b.title && pointwise same_clause a.items b.items
