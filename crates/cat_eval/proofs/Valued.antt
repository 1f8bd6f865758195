-- Expressions have values: each operator does, and so does each expression that the steps tell, if its names do.
use Rattle.std.proofs.Common.{◌≡◌, ℕ, ◌<◌, ◌⊎◌, List, [], Bool, true, false, Option, Some, None, option_map, refl, sym, ◌∙◌, ap, subst, inl, inr, length, get_or}
use Rattle.std.specs.List.{slice_get}
use Rattle.std.proofs.lemmas.Bool.{cases_lt, cases_eq, false≢true}
use Rattle.std.proofs.lemmas.List.{get_or_past}
use Rattle.listings.proofs.Telling.{Told, told_truth, told_or, told_and, told_not, told_as, told_some}
use Rattle.relations.specs.Events.{EventSet, Has, event_set}
use Rattle.relations.specs.Relation.{Relation, In, relation}
use Rattle.relations.specs.Tables.{place, cell}
use Rattle.relations.specs.Algebra.{Through, Chain, Domain, Range}
use Rattle.relations.specs.TableFacts.{place_line, line_below, line_again, cell_square, square_below, square_again}
use Rattle.cat_tree.specs.Tree.{Word}
use Rattle.cat_tree.specs.declared.node.Infix.{Infix}
use Rattle.cat_tree.specs.declared.node.Infix.TheVariants as infixes
use Rattle.cat_tree.specs.declared.node.Sign.{Sign}
use Rattle.cat_tree.specs.declared.node.Sign.TheVariants as signs
use Rattle.cat_model.specs.Named.{named_of, sort_of_named}
use Rattle.cat_model.specs.declared.named.Named.{Named}
use Rattle.cat_model.specs.declared.sort.Sort.{Sort}
use Rattle.cat_model.specs.declared.sort.Sort.TheVariants as sorts
use Rattle.events.specs.Executions.{GraphValue}
use Rattle.events.specs.Named.{event_count}
use Rattle.cat_eval.specs.declared.step.Step.{Step}
use Rattle.cat_eval.specs.declared.step.Step.TheVariants as steps
use Rattle.cat_eval.specs.declared.value.Value.{Value}
use Rattle.cat_eval.specs.declared.value.Value.TheVariants.{Events, Pairs}
use Rattle.cat_eval.specs.Core.{Term, name, empty_relation, empty_set, universe, applied, joined, Scope, HasSort, sort_of_name}
use Rattle.cat_eval.specs.Operators.{IsSet, IsRelation, IsUnion, IsIntersection, IsDifference, IsComplement, IsSequence, IsProduct, IsPlus, IsStar, IsOptional, IsInverse, IsDomain, IsRange, IsIdentity}
use Rattle.cat_eval.specs.CoreMeaning.{Made, MadeOfTwo, Means}
use Rattle.cat_eval.specs.Names.{Beforehand}
use Rattle.cat_eval.specs.Steps.{sort_of}
use Rattle.cat_eval.specs.Code.{place_in, Tells, bound, known, nothing, no_pair, no_event, all_events, signed, combined, copied}
use Rattle.cat_eval.proofs.Sorting.{Fits, means_sort}
use Rattle.cat_eval.proofs.Chained.{told_chain}

-- SETS AND RELATIONS

abbrev truth : (P : Type 0) → Told P → Bool
truth P (inl p) = true
truth P (inr p) = false

of_truth : (P : Type 0) (t : Told P) → truth P t ≡ true → P
of_truth P (inl p) e = p
of_truth P (inr p) e = absurd (false≢true e)

is_truth : (P : Type 0) (t : Told P) → P → truth P t ≡ true
is_truth P (inl p) q = refl
is_truth P (inr p) q = absurd (p q)

-- There is a set of the events that have what can be told.
pub a_set : (n : ℕ) (P : ℕ → Type 0) → ((i : ℕ) → Told (P i)) → (v : Value) × IsSet n P v
a_set n P d =
    let f : ℕ → Bool = λ i. truth (P i) (d i) in (
      Events (event_set n f),
      record {
        events = event_set n f;
        value = refl;
        exact = record {
          count = refl;
          only = λ i m. of_truth (P i) (d i) (sym (place_line n f i (line_below n f i m)) ∙ m);
          all = λ i l p. place_line n f i l ∙ is_truth (P i) (d i) p;
          canonical = record { members = line_again n f };
        };
      },
    )

-- There is a relation of the pairs that have it.
pub a_relation : (n : ℕ) (P : ℕ → ℕ → Type 0) → ((i j : ℕ) → Told (P i j)) → (v : Value) × IsRelation n P v
a_relation n P d =
    let f : ℕ → ℕ → Bool = λ i j. truth (P i j) (d i j) in (
      Pairs (relation n f),
      record {
        pairs = relation n f;
        value = refl;
        exact = record {
          count = refl;
          only = λ i j m. (let l : (i < n) × (j < n) = square_below n f i j m in of_truth (P i j) (d i j) (sym (cell_square n f i j l.0 l.1) ∙ m));
          all = λ i j l m p. cell_square n f i j l m ∙ is_truth (P i j) (d i j) p;
          canonical = record { pairs = square_again n f };
        };
      },
    )

pub no_pairs : (n : ℕ) → (v : Value) × IsRelation n (λ i j. ⊥) v
no_pairs n = a_relation n (λ i j. ⊥) (λ i j. inr (λ z. z))

pub no_events : (n : ℕ) → (v : Value) × IsSet n (λ i. ⊥) v
no_events n = a_set n (λ i. ⊥) (λ i. inr (λ z. z))

pub every_event : (n : ℕ) → (v : Value) × IsSet n (λ i. Unit {0}) v
every_event n = a_set n (λ i. Unit {0}) (λ i. inl tt)

-- WHAT IS TOLD OF OPERANDS

told_has : (s : EventSet) (i : ℕ) → Told (Has s i)
told_has s i = told_truth (place s.members i)

told_in : (r : Relation) (i j : ℕ) → Told (In r i j)
told_in r i j = told_truth (cell r.pairs i j)

row_inside : (r : Relation) (i j : ℕ) → In r i j → i < length r.pairs
unfolding cell
row_inside r i j h = elim (cases_lt i (length r.pairs)) [
  | inl l ↦ l
  | inr l ↦ absurd (false≢true (sym (ap (λ row. get_or row j false) (get_or_past r.pairs i [] l)) ∙ h))
]

place_inside : (r : Relation) (i j : ℕ) → In r i j → j < length (get_or r.pairs i [])
unfolding cell
place_inside r i j h = elim (cases_lt j (length (get_or r.pairs i []))) [
  | inl l ↦ l
  | inr l ↦ absurd (false≢true (sym (get_or_past (get_or r.pairs i []) j false l) ∙ h))
]

told_through : (n : ℕ) (r q : Relation) (i j : ℕ) → Told (Through n (In r) (In q) i j)
told_through n r q i j =
    told_as ((m : ℕ) × (m < n) × (In r i m × In q m j)) (Through n (In r) (In q) i j) (λ x. (x.0, x.1, x.2.0, x.2.1)) (λ x. (x.0, x.1, (x.2, x.3)))
    (told_some (λ m. In r i m × In q m j) (λ m. told_and (In r i m) (In q m j) (told_in r i m) (told_in q m j)) n)

told_chains : (r : Relation) (i j : ℕ) → Told (Chain (In r) i j)
told_chains r = told_chain (In r) (length r.pairs) (row_inside r) (told_in r)

told_domain : (r : Relation) (i : ℕ) → Told (Domain (In r) i)
told_domain r i =
    told_as ((j : ℕ) × (j < length (get_or r.pairs i [])) × In r i j) (Domain (In r) i) (λ x. (x.0, x.2)) (λ x. (x.0, place_inside r i x.0 x.1, x.1))
    (told_some (In r i) (told_in r i) (length (get_or r.pairs i [])))

told_range : (r : Relation) (j : ℕ) → Told (Range (In r) j)
told_range r j =
    told_as ((i : ℕ) × (i < length r.pairs) × In r i j) (Range (In r) j) (λ x. (x.0, x.2)) (λ x. (x.0, row_inside r x.0 j x.1, x.1))
    (told_some (λ i. In r i j) (λ i. told_in r i j) (length r.pairs))

-- OPERATORS

unlike : {A : Type 0} → sorts.Set ≡ sorts.Relation → A
unlike e = absurd (let z : ⊥ = cc in z)

a_union : (x y : Value) → sort_of x ≡ sort_of y → (v : Value) × IsUnion x y v
a_union (Events s) (Events t) e = a_set s.count (λ i. Has s i ⊎ Has t i) (λ i. told_or (Has s i) (Has t i) (told_has s i) (told_has t i))
a_union (Events s) (Pairs q) e = unlike e
a_union (Pairs r) (Events t) e = unlike (sym e)
a_union (Pairs r) (Pairs q) e = a_relation r.count (λ i j. In r i j ⊎ In q i j) (λ i j. told_or (In r i j) (In q i j) (told_in r i j) (told_in q i j))

an_intersection : (x y : Value) → sort_of x ≡ sort_of y → (v : Value) × IsIntersection x y v
an_intersection (Events s) (Events t) e = a_set s.count (λ i. Has s i × Has t i) (λ i. told_and (Has s i) (Has t i) (told_has s i) (told_has t i))
an_intersection (Events s) (Pairs q) e = unlike e
an_intersection (Pairs r) (Events t) e = unlike (sym e)
an_intersection (Pairs r) (Pairs q) e = a_relation r.count (λ i j. In r i j × In q i j) (λ i j. told_and (In r i j) (In q i j) (told_in r i j) (told_in q i j))

a_difference : (x y : Value) → sort_of x ≡ sort_of y → (v : Value) × IsDifference x y v
a_difference (Events s) (Events t) e = a_set s.count (λ i. Has s i × (¬ Has t i)) (λ i. told_and (Has s i) (¬ Has t i) (told_has s i) (told_not (Has t i) (told_has t i)))
a_difference (Events s) (Pairs q) e = unlike e
a_difference (Pairs r) (Events t) e = unlike (sym e)
a_difference (Pairs r) (Pairs q) e =
    a_relation r.count (λ i j. In r i j × (¬ In q i j)) (λ i j. told_and (In r i j) (¬ In q i j) (told_in r i j) (told_not (In q i j) (told_in q i j)))

a_sequence : (x y : Value) → sort_of x ≡ sorts.Relation → sort_of y ≡ sorts.Relation → (v : Value) × IsSequence x y v
a_sequence (Events s) y e d = unlike e
a_sequence (Pairs r) (Events t) e d = unlike d
a_sequence (Pairs r) (Pairs q) e d = a_relation r.count (Through r.count (In r) (In q)) (told_through r.count r q)

a_product : (x y : Value) → sort_of x ≡ sorts.Set → sort_of y ≡ sorts.Set → (v : Value) × IsProduct x y v
a_product (Pairs r) y e d = unlike (sym e)
a_product (Events s) (Pairs q) e d = unlike (sym d)
a_product (Events s) (Events t) e d = a_relation s.count (λ i j. Has s i × Has t j) (λ i j. told_and (Has s i) (Has t j) (told_has s i) (told_has t j))

a_complement : (x : Value) → (v : Value) × IsComplement x v
a_complement (Events s) = a_set s.count (λ i. ¬ Has s i) (λ i. told_not (Has s i) (told_has s i))
a_complement (Pairs r) = a_relation r.count (λ i j. ¬ In r i j) (λ i j. told_not (In r i j) (told_in r i j))

a_plus : (x : Value) → sort_of x ≡ sorts.Relation → (v : Value) × IsPlus x v
a_plus (Events s) e = unlike e
a_plus (Pairs r) e = a_relation r.count (Chain (In r)) (told_chains r)

a_star : (x : Value) → sort_of x ≡ sorts.Relation → (v : Value) × IsStar x v
a_star (Events s) e = unlike e
a_star (Pairs r) e = a_relation r.count (λ i j. Chain (In r) i j ⊎ (i ≡ j)) (λ i j. told_or (Chain (In r) i j) (i ≡ j) (told_chains r i j) (cases_eq i j))

an_optional : (x : Value) → sort_of x ≡ sorts.Relation → (v : Value) × IsOptional x v
an_optional (Events s) e = unlike e
an_optional (Pairs r) e = a_relation r.count (λ i j. In r i j ⊎ (i ≡ j)) (λ i j. told_or (In r i j) (i ≡ j) (told_in r i j) (cases_eq i j))

an_inverse : (x : Value) → sort_of x ≡ sorts.Relation → (v : Value) × IsInverse x v
an_inverse (Events s) e = unlike e
an_inverse (Pairs r) e = a_relation r.count (λ i j. In r j i) (λ i j. told_in r j i)

a_domain : (x : Value) → sort_of x ≡ sorts.Relation → (v : Value) × IsDomain x v
a_domain (Events s) e = unlike e
a_domain (Pairs r) e = a_set r.count (Domain (In r)) (told_domain r)

a_range : (x : Value) → sort_of x ≡ sorts.Relation → (v : Value) × IsRange x v
a_range (Events s) e = unlike e
a_range (Pairs r) e = a_set r.count (Range (In r)) (told_range r)

an_identity : (x : Value) → sort_of x ≡ sorts.Set → (v : Value) × IsIdentity x v
an_identity (Pairs r) e = unlike (sym e)
an_identity (Events s) e = a_relation s.count (λ i j. (i ≡ j) × Has s i) (λ i j. told_and (i ≡ j) (Has s i) (cases_eq i j) (told_has s i))

-- EXPRESSIONS

made_one : (A : Value → Type 0) (Op : Value → Value → Type 0) → ((x : Value) × A x) → ((x : Value) → A x → (v : Value) × Op x v) → (v : Value) × Made A Op v
made_one A Op f g = let w : (v : Value) × Op f.0 v = g f.0 f.1 in (w.0, record { operand = f.0; given = f.1; made = w.1 })

made_two : (A B : Value → Type 0) (Op : Value → Value → Value → Type 0) → ((x : Value) × A x) → ((y : Value) × B y) → ((x y : Value) → A x → B y → (v : Value) × Op x y v) → (v : Value) × MadeOfTwo A B Op v
made_two A B Op f g h = let w : (v : Value) × Op f.0 g.0 v = h f.0 g.0 f.1 g.1 in (w.0, record { left = f.0; right = g.0; given_left = f.1; given_right = g.1; made = w.1 })

-- an expression that has a sort has a value
abbrev pub HasValue : ℕ → (Word → Value → Type 0) → Scope → Term → Type 0
HasValue n E s p = (j : Sort) → HasSort s p j → (v : Value) × Means n E p v

of_relation : (n : ℕ) (E : Word → Value → Type 0) (s : Scope) → Fits E s → (p : Term) (Op : Value → Value → Type 0) → HasSort s p sorts.Relation → HasValue n E s p →
    ((x : Value) → sort_of x ≡ sorts.Relation → (v : Value) × Op x v) → (v : Value) × Made (Means n E p) Op v
of_relation n E s f p Op h g op = made_one (Means n E p) Op (g sorts.Relation h) (λ x m. op x (means_sort n E s f p sorts.Relation x h m))

pub sign_value : (n : ℕ) (E : Word → Value → Type 0) (s : Scope) → Fits E s → (u : Sign) (p : Term) → HasValue n E s p → HasValue n E s (applied u p)
sign_value n E s f signs.Complement p g j h = made_one (Means n E p) IsComplement (g j h) (λ x m. a_complement x)
sign_value n E s f signs.Plus p g j h = of_relation n E s f p IsPlus h.1 g a_plus
sign_value n E s f signs.Star p g j h = of_relation n E s f p IsStar h.1 g a_star
sign_value n E s f signs.Optional p g j h = of_relation n E s f p IsOptional h.1 g an_optional
sign_value n E s f signs.Inverse p g j h = of_relation n E s f p IsInverse h.1 g an_inverse
sign_value n E s f signs.Domain p g j h = of_relation n E s f p IsDomain h.1 g a_domain
sign_value n E s f signs.Range p g j h = of_relation n E s f p IsRange h.1 g a_range
sign_value n E s f signs.Identity p g j h = made_one (Means n E p) IsIdentity (g sorts.Set h.1) (λ x m. an_identity x (means_sort n E s f p sorts.Set x h.1 m))

of_alike : (n : ℕ) (E : Word → Value → Type 0) (s : Scope) → Fits E s → (p q : Term) (j : Sort) (Op : Value → Value → Value → Type 0) → HasSort s p j → HasSort s q j → HasValue n E s p → HasValue n E s q →
    ((x y : Value) → sort_of x ≡ sort_of y → (v : Value) × Op x y v) → (v : Value) × MadeOfTwo (Means n E p) (Means n E q) Op v
of_alike n E s f p q j Op h k g i op =
    made_two (Means n E p) (Means n E q) Op (g j h) (i j k) (λ x y a b. op x y (means_sort n E s f p j x h a ∙ sym (means_sort n E s f q j y k b)))

of_sorts : (n : ℕ) (E : Word → Value → Type 0) (s : Scope) → Fits E s → (p q : Term) (j : Sort) (Op : Value → Value → Value → Type 0) → HasSort s p j → HasSort s q j → HasValue n E s p → HasValue n E s q →
    ((x y : Value) → sort_of x ≡ j → sort_of y ≡ j → (v : Value) × Op x y v) → (v : Value) × MadeOfTwo (Means n E p) (Means n E q) Op v
of_sorts n E s f p q j Op h k g i op =
    made_two (Means n E p) (Means n E q) Op (g j h) (i j k) (λ x y a b. op x y (means_sort n E s f p j x h a) (means_sort n E s f q j y k b))

pub infix_value : (n : ℕ) (E : Word → Value → Type 0) (s : Scope) → Fits E s → (o : Infix) (p q : Term) → HasValue n E s p → HasValue n E s q → HasValue n E s (joined o p q)
infix_value n E s f infixes.Union p q g i j h = of_alike n E s f p q j IsUnion h.0 h.1 g i a_union
infix_value n E s f infixes.Intersection p q g i j h = of_alike n E s f p q j IsIntersection h.0 h.1 g i an_intersection
infix_value n E s f infixes.Difference p q g i j h = of_alike n E s f p q j IsDifference h.0 h.1 g i a_difference
infix_value n E s f infixes.Sequence p q g i j h = of_sorts n E s f p q sorts.Relation IsSequence h.1 h.2 g i a_sequence
infix_value n E s f infixes.Product p q g i j h = of_sorts n E s f p q sorts.Set IsProduct h.1 h.2 g i a_product

value_as : (n : ℕ) (E : Word → Value → Type 0) (s : Scope) (t u : Term) → t ≡ u → HasValue n E s u → HasValue n E s t
value_as n E s t u e h = let P : Term → Type 0 = λ x. HasValue n E s x in subst P (sym e) h

none_some : (k : Sort) → ◌≡◌ {A = Option Sort} None (Some k) → ⊥
none_some k e = cc

-- Each expression has a value that has a sort, and whose names have values.
pub told_value : (g : GraphValue) (ss : List Step) (names : List (Word × ℕ)) (E : Word → Value → Type 0) (s : Scope) → Fits E s →
    ((k : ℕ) (m : Named) → slice_get ss k ≡ Some (steps.Known m) → (v : Value) × Beforehand g (Some m) v) →
    ((x : Word) (k : ℕ) → place_in names x ≡ Some k → (v : Value) × E x v) →
    ((x : Word) (v : Value) → place_in names x ≡ None → Beforehand g (named_of x) v → E x v) →
    ((x : Word) (j : Sort) → place_in names x ≡ None → sort_of_name s x ≡ Some j → option_map sort_of_named (named_of x) ≡ Some j) →
    (k : ℕ) (t : Term) (j : Sort) → Tells ss names k t → HasSort s t j → (v : Value) × Means (event_count g) E t v
told_value g ss names E s f a b c d k t j (bound _ _ x e p) = value_as (event_count g) E s t (name x) e (λ i h. b x k p) j
told_value g ss names E s f a b c d k t j (known _ _ x m e p q r) =
    value_as (event_count g) E s t (name x) e (λ i h. (let w : (v : Value) × Beforehand g (Some m) v = a k m r in
    let Q : Option Named → Type 0 = λ o. Beforehand g o w.0 in
    (w.0, c x w.0 p (subst Q (sym q) w.1)))) j
told_value g ss names E s f a b c d k t j (nothing _ _ x e p q) =
    value_as (event_count g) E s t (name x) e (λ i h. (let Q : Option Named → Type 0 = λ o. option_map sort_of_named o ≡ Some i in absurd (none_some i (subst Q q (d x i p h))))) j
told_value g ss names E s f a b c d k t j (no_pair _ _ e r) = value_as (event_count g) E s t empty_relation e (λ i h. no_pairs (event_count g)) j
told_value g ss names E s f a b c d k t j (no_event _ _ e r) = value_as (event_count g) E s t empty_set e (λ i h. no_events (event_count g)) j
told_value g ss names E s f a b c d k t j (all_events _ _ e r) = value_as (event_count g) E s t universe e (λ i h. every_event (event_count g)) j
told_value g ss names E s f a b c d k t j (signed _ _ u m p e r l w) =
    value_as (event_count g) E s t (applied u p) e (sign_value (event_count g) E s f u p (λ i. told_value g ss names E s f a b c d m p i w)) j
told_value g ss names E s f a b c d k t j (combined _ _ o m n p q e r l z w x) =
    value_as (event_count g) E s t (joined o p q) e
    (infix_value (event_count g) E s f o p q (λ i. told_value g ss names E s f a b c d m p i w) (λ i. told_value g ss names E s f a b c d n q i x)) j
told_value g ss names E s f a b c d k t j (copied _ _ m r l w) = told_value g ss names E s f a b c d m t j w
