-- Each test of equality is true exactly of equal values, and so is an equivalence.
use Rattle.std.specs.Prelude.{◌≡◌, ◌&&◌, Bool, true, false, refl, Option, None, Some, List}
use Rattle.std.proofs.Common.{◌∙◌, sym, ap}
use Rattle.std.specs.Bool.{Decides, one_answer}
use Rattle.std.specs.Cmp.{IsEquivalence, booleans_Decides}
use Rattle.std.specs.Cmp.Lexicographic.{pointwise_decides}
use Rattle.std.proofs.lemmas.Slice.Eq.{bytes_eq-Decides}
use Rattle.cat_tree.specs.Equality.{same_term, same_terms, same_alias, same_defined, same_bound, same_shown, same_kind, same_clause, same_file}
use Rattle.cat_tree.specs.Tree.{Word, Term, Terms, union, sequence, difference, intersection, product, complement, plus, star, optional, inverse, domain, range, identity, name, empty_relation, empty_set, universe, call, no_terms, term, Defined, Bound, Shown, Clause, bind, bind_recursively, check, include, show, unshow, File, term_of, defined_of, bound_of, shown_of, check_of, clause_of}
use Rattle.cat_tree.specs.declared.tree.Binding.{Binding}
use Rattle.cat_tree.specs.declared.tree.Check.{Check}
use Rattle.cat_tree.specs.declared.tree.CheckKind.{CheckKind}
use Rattle.cat_tree.specs.declared.tree.CheckKind.TheVariants as kinds
use Rattle.cat_tree.specs.declared.tree.Definition.{Definition}
use Rattle.cat_tree.specs.declared.tree.Element.{Element}
use Rattle.cat_tree.specs.declared.expression.Expression.{Expression}
use Rattle.cat_tree.specs.declared.tree.Item.{Item}

-- a test of two values
pub both : {P Q : Type 0} (r s : Bool) → Decides r P → Decides s Q → Decides (r && s) (P × Q)
both true s p q = (λ h. (p.0 refl, q.0 h), λ h. q.1 h.1)
both false s p q = (λ h. cc, λ h. p.1 h.0)

-- a test of what two values are made of
pub by_parts : {P Q : Type 0} (r : Bool) → Decides r P → (P → Q) → (Q → P) → Decides r Q
by_parts r d to from = (λ h. to (d.0 h), λ q. d.1 (from q))

mutual
  pub term_exact : (a b : Term) → Decides (same_term a b) (a ≡ b)
  term_exact (union a b) (union c d) = by_parts _ (both _ _ (term_exact a c) (term_exact b d)) (λ h. ap (λ x. union x b) h.0 ∙ ap (union c) h.1) (λ e. ((let t : a ≡ c = cc in t), (let t : b ≡ d = cc in t)))
  term_exact (sequence a b) (sequence c d) = by_parts _ (both _ _ (term_exact a c) (term_exact b d)) (λ h. ap (λ x. sequence x b) h.0 ∙ ap (sequence c) h.1) (λ e. ((let t : a ≡ c = cc in t), (let t : b ≡ d = cc in t)))
  term_exact (difference a b) (difference c d) = by_parts _ (both _ _ (term_exact a c) (term_exact b d)) (λ h. ap (λ x. difference x b) h.0 ∙ ap (difference c) h.1) (λ e. ((let t : a ≡ c = cc in t), (let t : b ≡ d = cc in t)))
  term_exact (intersection a b) (intersection c d) = by_parts _ (both _ _ (term_exact a c) (term_exact b d)) (λ h. ap (λ x. intersection x b) h.0 ∙ ap (intersection c) h.1) (λ e. ((let t : a ≡ c = cc in t), (let t : b ≡ d = cc in t)))
  term_exact (product a b) (product c d) = by_parts _ (both _ _ (term_exact a c) (term_exact b d)) (λ h. ap (λ x. product x b) h.0 ∙ ap (product c) h.1) (λ e. ((let t : a ≡ c = cc in t), (let t : b ≡ d = cc in t)))
  term_exact (complement a) (complement b) = by_parts _ (term_exact a b) (λ h. ap complement h) (λ e. cc)
  term_exact (plus a) (plus b) = by_parts _ (term_exact a b) (λ h. ap plus h) (λ e. cc)
  term_exact (star a) (star b) = by_parts _ (term_exact a b) (λ h. ap star h) (λ e. cc)
  term_exact (optional a) (optional b) = by_parts _ (term_exact a b) (λ h. ap optional h) (λ e. cc)
  term_exact (inverse a) (inverse b) = by_parts _ (term_exact a b) (λ h. ap inverse h) (λ e. cc)
  term_exact (domain a) (domain b) = by_parts _ (term_exact a b) (λ h. ap domain h) (λ e. cc)
  term_exact (range a) (range b) = by_parts _ (term_exact a b) (λ h. ap range h) (λ e. cc)
  term_exact (identity a) (identity b) = by_parts _ (term_exact a b) (λ h. ap identity h) (λ e. cc)
  term_exact (name x) (name y) = by_parts _ (bytes_eq-Decides x y) (λ h. ap name h) (λ e. cc)
  term_exact empty_relation empty_relation = (λ h. refl, λ e. refl)
  term_exact empty_set empty_set = (λ h. refl, λ e. refl)
  term_exact universe universe = (λ h. refl, λ e. refl)
  term_exact (call f as') (call g bs) = by_parts _ (both _ _ (bytes_eq-Decides f g) (terms_exact as' bs)) (λ h. ap (λ x. call x as') h.0 ∙ ap (call g) h.1) (λ e. ((let t : f ≡ g = cc in t), (let t : as' ≡ bs = cc in t)))
  term_exact a b = (λ h. cc, λ e. cc)

  pub terms_exact : (a b : Terms) → Decides (same_terms a b) (a ≡ b)
  terms_exact no_terms no_terms = (λ h. refl, λ e. refl)
  terms_exact (term a as') (term b bs) = by_parts _ (both _ _ (term_exact a b) (terms_exact as' bs)) (λ h. ap (λ x. term x as') h.0 ∙ ap (term b) h.1) (λ e. ((let t : a ≡ b = cc in t), (let t : as' ≡ bs = cc in t)))
  terms_exact a b = (λ h. cc, λ e. cc)

pub alias_exact : (a b : Option Word) → Decides (same_alias a b) (a ≡ b)
alias_exact None None = (λ h. refl, λ e. refl)
alias_exact (Some x) (Some y) = by_parts _ (bytes_eq-Decides x y) (λ h. ap Some h) (λ e. cc)
alias_exact a b = (λ h. cc, λ e. cc)

abbrev defined : Word → List Word → Term → Defined
defined x ps a = record { name = x; parameters = ps; value = a }

pub defined_exact : (a b : Defined) → Decides (same_defined a b) (a ≡ b)
defined_exact a b =
    by_parts _
    (both _ _ (bytes_eq-Decides a.name b.name) (both _ _ (pointwise_decides bytes_eq-Decides a.parameters b.parameters) (term_exact a.value b.value)))
    (λ h. ap (λ x. defined x a.parameters a.value) h.0 ∙ ap (λ ps. defined b.name ps a.value) h.1.0 ∙ ap (defined b.name b.parameters) h.1.1)
    (λ e. (ap (λ c. c.name) e, (ap (λ c. c.parameters) e, ap (λ c. c.value) e)))

abbrev bound : Word → Term → Bound
bound x a = record { name = x; value = a }

pub bound_exact : (a b : Bound) → Decides (same_bound a b) (a ≡ b)
bound_exact a b = by_parts _ (both _ _ (bytes_eq-Decides a.name b.name) (term_exact a.value b.value)) (λ h. ap (λ x. bound x a.value) h.0 ∙ ap (bound b.name) h.1) (λ e. (ap (λ c. c.name) e, ap (λ c. c.value) e))

abbrev shown : Term → Option Word → Shown
shown a x = record { value = a; alias = x }

pub shown_exact : (a b : Shown) → Decides (same_shown a b) (a ≡ b)
shown_exact a b = by_parts _ (both _ _ (term_exact a.value b.value) (alias_exact a.alias b.alias)) (λ h. ap (λ t. shown t a.alias) h.0 ∙ ap (shown b.value) h.1) (λ e. (ap (λ c. c.value) e, ap (λ c. c.alias) e))

pub kind_exact : (a b : CheckKind) → Decides (same_kind a b) (a ≡ b)
kind_exact kinds.Acyclic kinds.Acyclic = (λ h. refl, λ e. refl)
kind_exact kinds.Irreflexive kinds.Irreflexive = (λ h. refl, λ e. refl)
kind_exact kinds.Empty kinds.Empty = (λ h. refl, λ e. refl)
kind_exact a b = (λ h. cc, λ e. cc)

pub clause_exact : (a b : Clause) → Decides (same_clause a b) (a ≡ b)
clause_exact (bind ds) (bind es) = by_parts _ (pointwise_decides defined_exact ds es) (λ h. ap bind h) (λ e. cc)
clause_exact (bind_recursively bs) (bind_recursively cs) = by_parts _ (pointwise_decides bound_exact bs cs) (λ h. ap bind_recursively h) (λ e. cc)
clause_exact (check f n k a x) (check g m l b y) =
    by_parts _
    (both _ _ (booleans_Decides f g) (both _ _ (booleans_Decides n m) (both _ _ (kind_exact k l) (both _ _ (term_exact a b) (alias_exact x y)))))
    (λ h. let d = h.0 in let e = h.1.0 in let i = h.1.1.0 in let j = h.1.1.1.0 in let o = h.1.1.1.1 in cc)
    (λ e. ((let t : f ≡ g = cc in t), ((let t : n ≡ m = cc in t), ((let t : k ≡ l = cc in t), ((let t : a ≡ b = cc in t), (let t : x ≡ y = cc in t))))))
clause_exact (include x) (include y) = by_parts _ (bytes_eq-Decides x y) (λ h. ap include h) (λ e. cc)
clause_exact (show es) (show fs) = by_parts _ (pointwise_decides shown_exact es fs) (λ h. ap show h) (λ e. cc)
clause_exact (unshow xs) (unshow ys) = by_parts _ (pointwise_decides bytes_eq-Decides xs ys) (λ h. ap unshow h) (λ e. cc)
clause_exact a b = (λ h. cc, λ e. cc)

abbrev file : Option Word → List Clause → File
file x is = record { title = x; items = is }

pub file_exact : (a b : File) → Decides (same_file a b) (a ≡ b)
file_exact a b = by_parts _ (both _ _ (alias_exact a.title b.title) (pointwise_decides clause_exact a.items b.items)) (λ h. ap (λ x. file x a.items) h.0 ∙ ap (file b.title) h.1) (λ e. (ap (λ c. c.title) e, ap (λ c. c.items) e))

-- a test that is true exactly of values with one tree
pub equivalence : {K L : Type 0} (tree : L → K) (E : K → K → Bool) → ((a b : K) → Decides (E a b) (a ≡ b)) → IsEquivalence (λ a b. E (tree a) (tree b))
equivalence tree E exact = record {
  refl = λ x. (exact (tree x) (tree x)).1 refl;
  symm = λ x y. one_answer _ _ (exact (tree x) (tree y)) (by_parts _ (exact (tree y) (tree x)) sym sym);
  congr = λ x y z h. ap (λ w. E w (tree z)) ((exact (tree x) (tree y)).0 h);
}

pub expression_equivalence : IsEquivalence (λ (a b : Expression). same_term (term_of a) (term_of b))
expression_equivalence = equivalence term_of same_term term_exact

pub definition_equivalence : IsEquivalence (λ (a b : Definition). same_defined (defined_of a) (defined_of b))
definition_equivalence = equivalence defined_of same_defined defined_exact

pub binding_equivalence : IsEquivalence (λ (a b : Binding). same_bound (bound_of a) (bound_of b))
binding_equivalence = equivalence bound_of same_bound bound_exact

pub check_equivalence : IsEquivalence (λ (a b : Check). same_clause (check_of a) (check_of b))
check_equivalence = equivalence check_of same_clause clause_exact

pub element_equivalence : IsEquivalence (λ (a b : Element). same_shown (shown_of a) (shown_of b))
element_equivalence = equivalence shown_of same_shown shown_exact

pub item_equivalence : IsEquivalence (λ (a b : Item). same_clause (clause_of a) (clause_of b))
item_equivalence = equivalence clause_of same_clause clause_exact

pub file_equivalence : IsEquivalence same_file
file_equivalence = equivalence (λ f. f) same_file file_exact
