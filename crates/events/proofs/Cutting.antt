-- What is known of orders, as pairs of events.
use Rattle.std.proofs.Common.{◌≡◌, ℕ, zero, suc, ◌+◌, ◌<◌, ◌≤◌, ◌⊎◌, ◌==◌, nat_lt, List, [], ◌∷◌, ◌++◌, length, drop, true, false, not, Option, Some, refl, sym, ◌∙◌, ap, subst, inl, inr, arith}
use Rattle.std.specs.List.{slice_get}
use Rattle.std.proofs.lemmas.Bool.{cases_eq, cases_Bool, lt-ltb, le-ltb, eq-eqb, eqb-true, ne_eqb, false≢true, and_parts, and_from, or_cases, or_left, or_right, cond-true, cond-false, not_from_true, not_from_false}
use Rattle.listings.specs.Lists.{IsIn, StandsAt}
use Rattle.listings.proofs.Listings.{in_append, in_left, in_right, in_map, map_in}
use Rattle.relations.specs.Events.{EventSet, Has, IsExactlySet, IsCanonicalSet}
use Rattle.relations.specs.Relation.{Relation, In, IsExactly, IsCanonical}
use Rattle.relations.specs.Equality.{reworded_set, reworded}
use Rattle.events.specs.declared.event.EventId.{EventId}
use Rattle.events.specs.declared.event.EventId.TheVariants.{Initial, Own}
use Rattle.events.specs.declared.named.RelName.TheVariants.{Co}
use Rattle.events.specs.Executions.{GraphValue}
use Rattle.events.specs.Named.{event_names, event_count, IsNumber, NamedRel, StandsBefore, StandsFrom, IsCoherenceBefore}
use Rattle.events.specs.Cuts.{same_event, is_among, placed, first_before, known_of, known_from, IsBeforeInOne}
use Rattle.events.specs.Rows.{ByNumbers, IsNumberOfOne, IsNumberUnless}
use Rattle.events.specs.Structures.{structure_of}
use Rattle.events.proofs.Standing.{stands_below, one_stands}
use Rattle.events.proofs.Shapes.{names_same}
use Rattle.events.proofs.Adding.{by_step, number_below, one_number, nothing_more, no_event_more, row_more, event_more}

-- PLACES AND LISTS

pub in_stands : {X : Type 0} (xs : List X) (x : X) → IsIn x xs → (i : ℕ) × StandsAt xs i x
in_stands [] x h = absurd h
in_stands (y ∷ xs) x h = elim h [ inl e ↦ (0, e) | inr m ↦ (let k = in_stands xs x m in (suc k.0, k.1)) ]

pub stands_in : {X : Type 0} (xs : List X) (i : ℕ) (x : X) → StandsAt xs i x → IsIn x xs
stands_in [] i x h = absurd h
stands_in (y ∷ xs) zero x h = inl h
stands_in (y ∷ xs) (suc i) x h = inr (stands_in xs i x h)

-- BEFORE

pub before_head : (e : EventId) (rest : List EventId) (d f : EventId) → (d ≡ e) × IsIn f rest → StandsBefore (e ∷ rest) d f
before_head e rest d f h = let k = in_stands rest f h.1 in (0, h.0, (suc k.0, omega arith, k.1))

pub before_tail : (e : EventId) (rest : List EventId) (d f : EventId) → StandsBefore rest d f → StandsBefore (e ∷ rest) d f
before_tail e rest d f h = (suc h.0, h.1, (suc h.2.0, (let l = h.2.1 in omega (arith, l)), h.2.2))

from_tail : (e : EventId) (rest : List EventId) (m b : ℕ) (f : EventId) → suc m ≤ b → StandsAt (e ∷ rest) b f → StandsFrom rest m f
from_tail e rest m zero f l h = absurd (omega (arith, l))
from_tail e rest m (suc b) f l h = (b, omega (arith, l), h)

pub before_split : (e : EventId) (rest : List EventId) (d f : EventId) → StandsBefore (e ∷ rest) d f → ((d ≡ e) × IsIn f rest) ⊎ StandsBefore rest d f
before_split e rest d f (zero, at, (b, l, h)) = let k : StandsFrom rest 0 f = from_tail e rest 0 b f (omega (arith, l)) h in inl (at, stands_in rest k.0 f k.2)
before_split e rest d f (suc a, at, (b, l, h)) = inr (a, at, from_tail e rest (a + 1) b f (omega (arith, l)) h)

pub before_none : (d f : EventId) → StandsBefore [] d f → ⊥
before_none d f h = h.1

-- AMONG

pub same_is : (d e : EventId) → same_event d e ≡ true → d ≡ e
same_is (Initial x) (Initial y) h = ap Initial (eqb-true x y h)
same_is (Initial x) (Own l q) h = absurd (false≢true h)
same_is (Own k p) (Initial y) h = absurd (false≢true h)
same_is (Own k p) (Own l q) h =
    let b = and_parts (k == l) (p == q) h in
    ap (λ i. Own i p) (eqb-true k l b.0) ∙ ap (λ i. Own l i) (eqb-true p q b.1)

pub same_self : (d : EventId) → same_event d d ≡ true
same_self (Initial x) = eq-eqb x x refl
same_self (Own k p) = and_from (k == k) (p == p) (eq-eqb k k refl) (eq-eqb p p refl)

pub among_in : (ws : List EventId) (e : EventId) → is_among ws e ≡ true → IsIn e ws
among_in [] e h = absurd (false≢true h)
among_in (w ∷ ws) e h = elim (or_cases (same_event e w) (is_among ws e) h) [ inl a ↦ inl (same_is e w a) | inr a ↦ inr (among_in ws e a) ]

pub in_among : (ws : List EventId) (e : EventId) → IsIn e ws → is_among ws e ≡ true
in_among [] e h = absurd h
in_among (w ∷ ws) e h = elim h [
  | inl a ↦ or_left (same_event e w) (is_among ws e) (let P : EventId → Type 0 = λ x. same_event e x ≡ true in subst P a (same_self e))
  | inr a ↦ or_right (same_event e w) (is_among ws e) (in_among ws e a)
]

-- a number is among those of some events where its event is among them
pub number_among : (g : GraphValue) (ws : List EventId) (e : EventId) (i : ℕ) → IsNumber g i e → IsNumberOfOne g ws i → is_among ws e ≡ true
number_among g ws e i n k =
    let P : EventId → Type 0 = λ x. IsIn x ws in
    in_among ws e (subst P (one_stands (event_names g) i k.0 e k.1 n) k.2)

-- THE PLACED WRITES

placed_unless : (ws : List EventId) (e : EventId) (rest : List EventId) → is_among ws e ≡ true → placed ws (e ∷ rest) ≡ placed ws rest
placed_unless ws e rest h = cond-false (not (is_among ws e)) (e ∷ placed ws rest) (placed ws rest) (not_from_true (is_among ws e) h)

placed_more : (ws : List EventId) (e : EventId) (rest : List EventId) → is_among ws e ≡ false → placed ws (e ∷ rest) ≡ e ∷ placed ws rest
placed_more ws e rest h = cond-true (not (is_among ws e)) (e ∷ placed ws rest) (placed ws rest) (not_from_false (is_among ws e) h)

-- what stands from a place on
pub drop_at : {X : Type 0} (xs : List X) (p : ℕ) (x : X) → StandsAt xs p x → drop p xs ≡ x ∷ drop (p + 1) xs
drop_at [] p x h = absurd h
drop_at (y ∷ xs) zero x h = ap (λ z. z ∷ xs) (sym h)
drop_at (y ∷ xs) (suc p) x h = let f : suc p + 1 ≡ suc (p + 1) = omega arith in rw f (drop_at xs p x h)

module _ (n : ℕ) (g : GraphValue) (ws : List EventId) where
  -- from the places from q on to those from p on, where e stands at p
  behind_more : (e : EventId) (rest : List EventId) (u s t : EventSet) → IsExactlySet n (IsNumberOfOne g ws) u → IsExactlySet n (IsNumberOfOne g (placed ws rest)) s →
      IsExactlySet n (λ j. Has s j ⊎ IsNumberUnless g (Has u) e j) t → n ≡ event_count g → IsExactlySet n (IsNumberOfOne g (placed ws (e ∷ rest))) t
  behind_more e rest u s t k h m c = elim (cases_Bool (is_among ws e)) [
    | inl there ↦
        (let P : List EventId → Type 0 = λ xs. IsExactlySet n (IsNumberOfOne g xs) t in
        subst P (sym (placed_unless ws e rest there)) (reworded_set n (λ j. Has s j ⊎ IsNumberUnless g (Has u) e j) (IsNumberOfOne g (placed ws rest)) t
        (λ i x. elim x [
          | inl y ↦ h.only i y
          | inr y ↦ absurd (y.1 (k.all i (let l = number_below g i e y.0 in omega (arith, l, c)) (e, y.0, among_in ws e there)))
        ])
        (λ i l x. inl (h.all i l x)) m))
    | inr apart ↦
        (let P : List EventId → Type 0 = λ xs. IsExactlySet n (IsNumberOfOne g xs) t in
        subst P (sym (placed_more ws e rest apart)) (reworded_set n (λ j. Has s j ⊎ IsNumberUnless g (Has u) e j) (IsNumberOfOne g (e ∷ placed ws rest)) t
        (λ i x. elim x [
          | inl y ↦ (let z = h.only i y in (z.0, z.1, inr z.2))
          | inr y ↦ (e, y.0, inl refl)
        ])
        (λ i l x. elim x.2 [
          | inl y ↦ (let Q : EventId → Type 0 = λ z. IsNumber g i z in
              let own : IsNumber g i e = subst Q y x.1 in
              inr (own, λ z. false≢true (sym apart ∙ number_among g ws e i own (k.only i z))))
          | inr y ↦ inl (h.all i l (x.0, x.1, y))
        ]) m))
  ]

  order_more : (e : EventId) (rest : List EventId) (u s : EventSet) (o r t : Relation) → IsExactlySet n (IsNumberOfOne g ws) u → IsExactlySet n (IsNumberOfOne g (placed ws rest)) s →
      IsExactly n (λ i j. In o i j ⊎ ByNumbers g (StandsBefore (placed ws rest)) i j) r → IsExactly n (λ i j. In r i j ⊎ (IsNumberUnless g (Has u) e i × Has s j)) t → n ≡ event_count g →
      IsExactly n (λ i j. In o i j ⊎ ByNumbers g (StandsBefore (placed ws (e ∷ rest))) i j) t
  order_more e rest u s o r t k h q m c = elim (cases_Bool (is_among ws e)) [
    | inl there ↦
        (let P : List EventId → Type 0 = λ xs. IsExactly n (λ i j. In o i j ⊎ ByNumbers g (StandsBefore xs) i j) t in
        subst P (sym (placed_unless ws e rest there)) (reworded n (λ i j. In r i j ⊎ (IsNumberUnless g (Has u) e i × Has s j)) (λ i j. In o i j ⊎ ByNumbers g (StandsBefore (placed ws rest)) i j) t
        (λ i j x. elim x [
          | inl y ↦ q.only i j y
          | inr y ↦ absurd (y.0.1 (k.all i (let l = number_below g i e y.0.0 in omega (arith, l, c)) (e, y.0.0, among_in ws e there)))
        ])
        (λ i j a b x. inl (q.all i j a b x)) m))
    | inr apart ↦
        (let P : List EventId → Type 0 = λ xs. IsExactly n (λ i j. In o i j ⊎ ByNumbers g (StandsBefore xs) i j) t in
        subst P (sym (placed_more ws e rest apart)) (reworded n (λ i j. In r i j ⊎ (IsNumberUnless g (Has u) e i × Has s j)) (λ i j. In o i j ⊎ ByNumbers g (StandsBefore (e ∷ placed ws rest)) i j) t
        (λ i j x. elim x [
          | inl y ↦ elim (q.only i j y) [
            | inl z ↦ inl z
            | inr z ↦ inr (z.0, z.1, z.2, z.3, before_tail e (placed ws rest) z.0 z.1 z.4)
          ]
          | inr y ↦ (let z = h.only j y.1 in inr (e, z.0, y.0.0, z.1, before_head e (placed ws rest) e z.0 (refl, z.2)))
        ])
        (λ i j a b x. elim x [
          | inl y ↦ inl (q.all i j a b (inl y))
          | inr y ↦ elim (before_split e (placed ws rest) y.0 y.1 y.4) [
            | inl z ↦ (let Q : EventId → Type 0 = λ w. IsNumber g i w in
                let own : IsNumber g i e = subst Q z.0 y.2 in
                inr ((own, λ w. false≢true (sym apart ∙ number_among g ws e i own (k.only i w))), h.all j b (y.1, y.3, z.1)))
            | inr z ↦ inl (q.all i j a b (inr (y.0, y.1, y.2, y.3, z)))
          ]
        ]) m))
  ]

  -- the same at places of an order
  pub behind_further : (order : List EventId) (p q : ℕ) (e : EventId) (u s t : EventSet) → q ≡ p + 1 → StandsAt order p e → IsExactlySet n (IsNumberOfOne g ws) u → IsExactlySet n (IsNumberOfOne g (placed ws (drop q order))) s →
      IsExactlySet n (λ j. Has s j ⊎ IsNumberUnless g (Has u) e j) t → n ≡ event_count g → IsExactlySet n (IsNumberOfOne g (placed ws (drop p order))) t
  behind_further order p q e u s t f at k h m c =
      let P : List EventId → Type 0 = λ xs. IsExactlySet n (IsNumberOfOne g (placed ws xs)) t in
      subst P (ap (λ b. e ∷ drop b order) f ∙ sym (drop_at order p e at)) (behind_more e (drop q order) u s t k h m c)

  pub order_further : (order : List EventId) (p q : ℕ) (e : EventId) (u s : EventSet) (o r t : Relation) → q ≡ p + 1 → StandsAt order p e → IsExactlySet n (IsNumberOfOne g ws) u → IsExactlySet n (IsNumberOfOne g (placed ws (drop q order))) s →
      IsExactly n (λ i j. In o i j ⊎ ByNumbers g (StandsBefore (placed ws (drop q order))) i j) r → IsExactly n (λ i j. In r i j ⊎ (IsNumberUnless g (Has u) e i × Has s j)) t → n ≡ event_count g →
      IsExactly n (λ i j. In o i j ⊎ ByNumbers g (StandsBefore (placed ws (drop p order))) i j) t
  order_further order p q e u s o r t f at k h l m c =
      let P : List EventId → Type 0 = λ xs. IsExactly n (λ i j. In o i j ⊎ ByNumbers g (StandsBefore (placed ws xs)) i j) t in
      subst P (ap (λ b. e ∷ drop b order) f ∙ sym (drop_at order p e at)) (order_more e (drop q order) u s o r t k h l m c)

-- ONE EVENT, UNLESS ITS NUMBER IS ONE OF SOME

module _ (n m from : ℕ) (g : GraphValue) (d : EventId) (P : ℕ → Type 0) where
  pub unless_row : (s : EventSet) (r t : Relation) → m ≡ n → IsNumber g from d → (¬ P from) → IsExactly m (λ a b. In r a b ⊎ ((a ≡ from) × Has s b)) t → IsExactly n (λ i j. In r i j ⊎ (IsNumberUnless g P d i × Has s j)) t
  unless_row s r t f a b h =
      reworded n (λ i j. In r i j ⊎ (IsNumber g i d × Has s j)) (λ i j. In r i j ⊎ (IsNumberUnless g P d i × Has s j)) t
      (λ i j x. elim x [ inl y ↦ inl y | inr y ↦ inr ((y.0, λ z. b (subst P (one_number g d i from y.0 a) z)), y.1) ])
      (λ i j k l x. elim x [ inl y ↦ inl y | inr y ↦ inr (y.0.0, y.1) ])
      (row_more n m from g d s r t f a h)

  pub unless_event : (s t : EventSet) → m ≡ n → IsNumber g from d → (¬ P from) → IsExactlySet m (λ a. Has s a ⊎ (a ≡ from)) t → IsExactlySet n (λ i. Has s i ⊎ IsNumberUnless g P d i) t
  unless_event s t f a b h =
      reworded_set n (λ i. Has s i ⊎ IsNumber g i d) (λ i. Has s i ⊎ IsNumberUnless g P d i) t
      (λ i x. elim x [ inl y ↦ inl y | inr y ↦ inr (y, λ z. b (subst P (one_number g d i from y a) z)) ])
      (λ i k x. elim x [ inl y ↦ inl y | inr y ↦ inr y.0 ])
      (event_more n m from g d s t f a h)

  pub except_row : (s : EventSet) (r : Relation) → r.count ≡ n → IsCanonical r → IsNumber g from d → P from → IsExactly n (λ i j. In r i j ⊎ (IsNumberUnless g P d i × Has s j)) r
  except_row s r c k a b = nothing_more n (λ i j. IsNumberUnless g P d i × Has s j) r c k (λ i j x. x.0.1 (subst P (one_number g d from i a x.0.0) b))

  pub except_event : (s : EventSet) → s.count ≡ n → IsCanonicalSet s → IsNumber g from d → P from → IsExactlySet n (λ i. Has s i ⊎ IsNumberUnless g P d i) s
  except_event s c k a b = no_event_more n (IsNumberUnless g P d) s c k (λ i x. x.1 (subst P (one_number g d from i a x.0) b))

-- no event of none
pub no_numbers : (n : ℕ) (g : GraphValue) (es : List EventId) (s : EventSet) → es ≡ [] → IsExactlySet n (λ i. ⊥) s → IsExactlySet n (IsNumberOfOne g es) s
no_numbers n g es s e h =
    let P : List EventId → Type 0 = λ xs. IsExactlySet n (IsNumberOfOne g xs) s in
    subst P (sym e) (reworded_set n (λ i. ⊥) (IsNumberOfOne g []) s (λ i x. absurd x) (λ i l x. x.2) h)

pub no_pairs : (n : ℕ) (g : GraphValue) (order : List EventId) (r : Relation) → order ≡ [] → r.count ≡ n → IsCanonical r → IsExactly n (λ i j. In r i j ⊎ ByNumbers g (StandsBefore order) i j) r
no_pairs n g order r e c d =
    let P : List EventId → Type 0 = λ xs. IsExactly n (λ i j. In r i j ⊎ ByNumbers g (StandsBefore xs) i j) r in
    subst P (sym e) (nothing_more n (ByNumbers g (StandsBefore [])) r c d (λ i j x. before_none x.0 x.1 x.4))

-- NUMBERS, ONE EVENT AFTER ANOTHER

-- the number of one of the first events
abbrev pub IsNumberAmong : GraphValue → List EventId → ℕ → ℕ → Type 0
IsNumberAmong g es m i = (e : EventId) × (k : ℕ) × IsNumber g i e × (k < m) × StandsAt es k e

pub numbers_begun : (n : ℕ) (g : GraphValue) (es : List EventId) (s : EventSet) → IsExactlySet n (λ i. ⊥) s → IsExactlySet n (IsNumberAmong g es 0) s
numbers_begun n g es s h = reworded_set n (λ i. ⊥) (IsNumberAmong g es 0) s (λ i x. absurd x) (λ i l x. (let z : ⊥ = omega (arith, x.3) in z)) h

pub numbers_on : (n : ℕ) (g : GraphValue) (es : List EventId) (m : ℕ) (e : EventId) (s t : EventSet) → StandsAt es m e → IsExactlySet n (IsNumberAmong g es m) s → IsExactlySet n (λ i. Has s i ⊎ IsNumber g i e) t →
    IsExactlySet n (IsNumberAmong g es (m + 1)) t
numbers_on n g es m e s t at h k =
    reworded_set n (λ i. Has s i ⊎ IsNumber g i e) (IsNumberAmong g es (m + 1)) t
    (λ i x. elim x [
      | inl y ↦ (let z = h.only i y in (z.0, z.1, z.2, omega (arith, z.3), z.4))
      | inr y ↦ (e, m, y, omega arith, at)
    ])
    (λ i l x. elim (cases_eq x.1 m) [
      | inl f ↦ (let P : ℕ → Type 0 = λ b. StandsAt es b x.0 in let Q : EventId → Type 0 = λ d. IsNumber g i d in inr (subst Q (one_stands es m x.0 e (subst P f x.4) at) x.2))
      | inr f ↦ inl (h.all i l (x.0, x.1, x.2, omega (arith, f, x.3), x.4))
    ]) k

pub numbers_done : (n : ℕ) (g : GraphValue) (es : List EventId) (m : ℕ) (s : EventSet) → length es ≤ m → IsExactlySet n (IsNumberAmong g es m) s → IsExactlySet n (IsNumberOfOne g es) s
numbers_done n g es m s l h =
    reworded_set n (IsNumberAmong g es m) (IsNumberOfOne g es) s
    (λ i x. (x.0, x.2, stands_in es x.1 x.0 x.4))
    (λ i a x. (let k = in_stands es x.0 x.2 in (x.0, k.0, x.1, omega (arith, l, stands_below es k.0 x.0 k.1), k.1))) h

-- THE FIRST OF AN ORDER

pub first_stands : (order : List EventId) (x : EventId) → ◌≡◌ {A = Option EventId} (Some x) (slice_get order 0) → StandsAt order 0 x
first_stands [] x e = cc
first_stands (y ∷ ys) x e = cc

-- the first stands before each of the others
pub first_is : (x : EventId) (ys ws : List EventId) (d e : EventId) → IsBeforeInOne (first_before (x ∷ ys) ws) d e → (d ≡ x) × IsIn e ws
first_is x ys ws d e h =
    let k = in_map (λ w. x ∷ w ∷ []) ws h.0 h.1 in
    let P : List EventId → Type 0 = λ order. StandsBefore order d e in
    elim (before_split x (k.0 ∷ []) d e (subst P (sym k.2) h.2)) [
      | inl a ↦ (a.0, elim a.1 [ inl b ↦ (let Q : EventId → Type 0 = λ z. IsIn z ws in subst Q (sym b) k.1) | inr b ↦ absurd b ])
      | inr a ↦ absurd (elim (before_split k.0 [] d e a) [ inl b ↦ b.1 | inr b ↦ before_none d e b ])
    ]

pub is_first : (x : EventId) (ys ws : List EventId) (d e : EventId) → d ≡ x → IsIn e ws → IsBeforeInOne (first_before (x ∷ ys) ws) d e
is_first x ys ws d e a b = (x ∷ e ∷ [], map_in (λ w. x ∷ w ∷ []) ws e b, before_head x (e ∷ []) d e (a, inl refl))

pub first_more : (n : ℕ) (g : GraphValue) (order ws : List EventId) (x : EventId) (s : EventSet) (r t : Relation) → StandsAt order 0 x → IsExactlySet n (IsNumberOfOne g ws) s →
    IsExactly n (λ i j. In r i j ⊎ (IsNumber g i x × Has s j)) t → IsExactly n (λ i j. In r i j ⊎ ByNumbers g (IsBeforeInOne (first_before order ws)) i j) t
first_more n g [] ws x s r t at h k = absurd at
first_more n g (y ∷ ys) ws x s r t at h k =
    reworded n (λ i j. In r i j ⊎ (IsNumber g i x × Has s j)) (λ i j. In r i j ⊎ ByNumbers g (IsBeforeInOne (first_before (y ∷ ys) ws)) i j) t
    (λ i j a. elim a [
      | inl b ↦ inl b
      | inr b ↦ (let c = h.only j b.1 in inr (x, c.0, b.0, c.1, is_first y ys ws x c.0 at c.2))
    ])
    (λ i j l m a. elim a [
      | inl b ↦ inl b
      | inr b ↦ (let c = first_is y ys ws b.0 b.1 b.4 in
          let P : EventId → Type 0 = λ z. IsNumber g i z in
          inr (subst P (c.0 ∙ sym at) b.2, h.all j m (b.1, b.3, c.1)))
    ]) k

-- an order of no event has no first
pub no_first : (n : ℕ) (g : GraphValue) (order ws : List EventId) (r : Relation) → length order ≡ 0 → r.count ≡ n → IsCanonical r → IsExactly n (λ i j. In r i j ⊎ ByNumbers g (IsBeforeInOne (first_before order ws)) i j) r
no_first n g [] ws r l c d = nothing_more n (ByNumbers g (IsBeforeInOne [])) r c d (λ i j x. x.4.1)
no_first n g (y ∷ ys) ws r l c d = absurd (omega (arith, l))

-- a first that is no event relates nothing
pub first_unnamed : (n : ℕ) (g : GraphValue) (order ws : List EventId) (x : EventId) (r : Relation) → StandsAt order 0 x → ((i : ℕ) → ¬ IsNumber g i x) → r.count ≡ n → IsCanonical r → IsExactly n (λ i j. In r i j ⊎ ByNumbers g (IsBeforeInOne (first_before order ws)) i j) r
first_unnamed n g [] ws x r at f c d = absurd at
first_unnamed n g (y ∷ ys) ws x r at f c d =
    nothing_more n (ByNumbers g (IsBeforeInOne (first_before (y ∷ ys) ws))) r c d
    (λ i j a. (let P : EventId → Type 0 = λ z. IsNumber g i z in f i (subst P ((first_is y ys ws a.0 a.1 a.4).0 ∙ sym at) a.2)))

-- ALL ORDERS

one_order : (order : List EventId) (d e : EventId) → IsBeforeInOne (order ∷ []) d e → StandsBefore order d e
one_order order d e h = elim h.1 [ inl a ↦ (let P : List EventId → Type 0 = λ x. StandsBefore x d e in subst P a h.2) | inr a ↦ absurd a ]

before_append : (xs ys : List (List EventId)) (d e : EventId) → IsBeforeInOne (xs ++ ys) d e → IsBeforeInOne xs d e ⊎ IsBeforeInOne ys d e
before_append xs ys d e h = elim (in_append xs ys h.0 h.1) [ inl a ↦ inl (h.0, a, h.2) | inr a ↦ inr (h.0, a, h.2) ]

-- what is known of one order: where it is free, is the one behind the free ones, and is behind that
known_free : (free : ℕ) (ws : List EventId) (x : ℕ) (order : List EventId) → x < free → known_of free ws x order ≡ first_before order (drop 1 order)
known_free free ws x order l = cond-true (nat_lt x free) (first_before order (drop 1 order)) _ (lt-ltb x free l)

known_next : (free : ℕ) (ws : List EventId) (x : ℕ) (order : List EventId) → x ≡ free → known_of free ws x order ≡ placed ws order ∷ first_before order ws
known_next free ws x order e =
    cond-false (nat_lt x free) (first_before order (drop 1 order)) _ (le-ltb x free (omega (arith, e)))
    ∙ cond-true (x == free) (placed ws order ∷ first_before order ws) (order ∷ []) (eq-eqb x free e)

known_whole : (free : ℕ) (ws : List EventId) (x : ℕ) (order : List EventId) → free < x → known_of free ws x order ≡ order ∷ []
known_whole free ws x order l =
    cond-false (nat_lt x free) (first_before order (drop 1 order)) _ (le-ltb x free (omega (arith, l)))
    ∙ cond-false (x == free) (placed ws order ∷ first_before order ws) (order ∷ []) (ne_eqb x free (λ e. omega (arith, l, e)))

module _ (n : ℕ) (g : GraphValue) (free : ℕ) (ws : List EventId) (x : ℕ) (order : List EventId) (o r t : Relation) where
  pub free_more : x < free → (others : List EventId) → others ≡ drop 1 order → IsExactly n (λ i j. In o i j ⊎ ByNumbers g (IsBeforeInOne (first_before order others)) i j) t →
      IsExactly n (λ i j. In o i j ⊎ ByNumbers g (IsBeforeInOne (known_of free ws x order)) i j) t
  free_more l others e h =
      let P : List (List EventId) → Type 0 = λ orders. IsExactly n (λ i j. In o i j ⊎ ByNumbers g (IsBeforeInOne orders) i j) t in
      subst P (ap (λ ys. first_before order ys) e ∙ sym (known_free free ws x order l)) h

  pub whole_more : free < x → IsExactly n (λ i j. In o i j ⊎ ByNumbers g (StandsBefore order) i j) t →
      IsExactly n (λ i j. In o i j ⊎ ByNumbers g (IsBeforeInOne (known_of free ws x order)) i j) t
  whole_more l h =
      let P : List (List EventId) → Type 0 = λ orders. IsExactly n (λ i j. In o i j ⊎ ByNumbers g (IsBeforeInOne orders) i j) t in
      subst P (sym (known_whole free ws x order l)) (reworded n (λ i j. In o i j ⊎ ByNumbers g (StandsBefore order) i j) (λ i j. In o i j ⊎ ByNumbers g (IsBeforeInOne (order ∷ [])) i j) t
      (λ i j a. elim a [ inl b ↦ inl b | inr b ↦ inr (b.0, b.1, b.2, b.3, (order, inl refl, b.4)) ])
      (λ i j k m a. elim a [ inl b ↦ inl b | inr b ↦ inr (b.0, b.1, b.2, b.3, one_order order b.0 b.1 b.4) ]) h)

  pub next_more : x ≡ free → IsExactly n (λ i j. In o i j ⊎ ByNumbers g (StandsBefore (placed ws order)) i j) r →
      IsExactly n (λ i j. In r i j ⊎ ByNumbers g (IsBeforeInOne (first_before order ws)) i j) t →
      IsExactly n (λ i j. In o i j ⊎ ByNumbers g (IsBeforeInOne (known_of free ws x order)) i j) t
  next_more e h k =
      let P : List (List EventId) → Type 0 = λ orders. IsExactly n (λ i j. In o i j ⊎ ByNumbers g (IsBeforeInOne orders) i j) t in
      subst P (sym (known_next free ws x order e))
      (reworded n (λ i j. In r i j ⊎ ByNumbers g (IsBeforeInOne (first_before order ws)) i j) (λ i j. In o i j ⊎ ByNumbers g (IsBeforeInOne (placed ws order ∷ first_before order ws)) i j) t
      (λ i j a. elim a [
        | inl b ↦ elim (h.only i j b) [ inl c ↦ inl c | inr c ↦ inr (c.0, c.1, c.2, c.3, (placed ws order, inl refl, c.4)) ]
        | inr b ↦ (let c = b.4 in inr (b.0, b.1, b.2, b.3, (c.0, inr c.1, c.2)))
      ])
      (λ i j l m a. elim a [
        | inl b ↦ inl (h.all i j l m (inl b))
        | inr b ↦ (let c = b.4 in elim c.1 [
          | inl f ↦ (let Q : List EventId → Type 0 = λ y. StandsBefore y b.0 b.1 in inl (h.all i j l m (inr (b.0, b.1, b.2, b.3, subst Q f c.2))))
          | inr f ↦ inr (b.0, b.1, b.2, b.3, (c.0, f, c.2))
        ])
      ]) k)

-- WHAT IS TOLD OF EACH ORDER

-- d is before e by what is told of the order of one of the first m locations
abbrev pub IsToldAmong : (tells : ℕ → List EventId → List (List EventId)) → GraphValue → ℕ → EventId → EventId → Type 0
IsToldAmong tells g m d e = (x : ℕ) × (order : List EventId) × (x < m) × StandsAt g.co x order × IsBeforeInOne (tells x order) d e

pub told_on : (n : ℕ) (g : GraphValue) (tells : ℕ → List EventId → List (List EventId)) (x : ℕ) (order : List EventId) (r t : Relation) → StandsAt g.co x order → IsExactly n (ByNumbers g (IsToldAmong tells g x)) r →
    IsExactly n (λ i j. In r i j ⊎ ByNumbers g (IsBeforeInOne (tells x order)) i j) t → IsExactly n (ByNumbers g (IsToldAmong tells g (x + 1))) t
told_on n g tells x order r t at h k =
    by_step n g (IsToldAmong tells g x) (IsBeforeInOne (tells x order)) (IsToldAmong tells g (x + 1)) r t
    (λ d e y. (y.0, y.1, omega (arith, y.2), y.3, y.4))
    (λ d e y. (x, order, omega arith, at, y))
    (λ d e y. elim (cases_eq y.0 x) [
      | inl f ↦ (let P : ℕ → Type 0 = λ b. StandsAt g.co b y.1 in
          let Q1 : ℕ → Type 0 = λ b. IsBeforeInOne (tells b y.1) d e in
          let Q2 : List EventId → Type 0 = λ o. IsBeforeInOne (tells x o) d e in
          inr (subst Q2 (one_stands g.co x y.1 order (subst P f y.3) at) (subst Q1 f y.4)))
      | inr f ↦ inl (y.0, y.1, omega (arith, f, y.2), y.3, y.4)
    ]) h k

-- all gathers what is told of the orders from a location on
pub record Gathers (tells : ℕ → List EventId → List (List EventId)) (all : ℕ → List (List EventId) → List (List EventId)) : Type 0 where
  pub nothing : (x : ℕ) → all x [] ≡ []
  pub next : (x : ℕ) (order : List EventId) (orders : List (List EventId)) → all x (order ∷ orders) ≡ tells x order ++ all (suc x) orders

pub known_gathers : (free : ℕ) (ws : List EventId) → Gathers (known_of free ws) (known_from free ws)
known_gathers free ws = record { nothing = λ x. refl; next = λ x order orders. refl }

-- what is gathered, place by place
module _ (tells : ℕ → List EventId → List (List EventId)) (all : ℕ → List (List EventId) → List (List EventId)) (gathers : Gathers tells all) (d e : EventId) where
  from_gathered : (m : ℕ) (orders : List (List EventId)) → IsBeforeInOne (all m orders) d e → (x : ℕ) × (order : List EventId) × StandsAt orders x order × IsBeforeInOne (tells (m + x) order) d e
  from_gathered m [] h = let P : List (List EventId) → Type 0 = λ os. IsBeforeInOne os d e in absurd (let z = subst P (gathers.nothing m) h in z.1)
  from_gathered m (order ∷ orders) h =
      let P : List (List EventId) → Type 0 = λ os. IsBeforeInOne os d e in
      elim (before_append (tells m order) (all (suc m) orders) d e (subst P (gathers.next m order orders) h)) [
        | inl a ↦ (0, order, refl, (let Q : ℕ → Type 0 = λ b. IsBeforeInOne (tells b order) d e in subst Q (omega arith) a))
        | inr a ↦ (let k = from_gathered (suc m) orders a in
            let Q : ℕ → Type 0 = λ b. IsBeforeInOne (tells b k.1) d e in
            let f : suc m + k.0 ≡ m + suc k.0 = omega arith in
            (suc k.0, k.1, k.2, subst Q f k.3))
      ]

  to_gathered : (m : ℕ) (orders : List (List EventId)) (x : ℕ) (order : List EventId) → StandsAt orders x order → IsBeforeInOne (tells (m + x) order) d e → IsBeforeInOne (all m orders) d e
  to_gathered m [] x order at h = absurd at
  to_gathered m (o ∷ orders) zero order at h =
      let P : List EventId → Type 0 = λ y. IsBeforeInOne (tells m y) d e in
      let Q : ℕ → Type 0 = λ b. IsBeforeInOne (tells b order) d e in
      let R : List (List EventId) → Type 0 = λ os. IsBeforeInOne os d e in
      let f : m + 0 ≡ m = omega arith in
      let k : IsBeforeInOne (tells m o) d e = subst P at (subst Q f h) in
      subst R (sym (gathers.next m o orders)) (k.0, in_left (tells m o) (all (suc m) orders) k.0 k.1, k.2)
  to_gathered m (o ∷ orders) (suc x) order at h =
      let Q : ℕ → Type 0 = λ b. IsBeforeInOne (tells b order) d e in
      let R : List (List EventId) → Type 0 = λ os. IsBeforeInOne os d e in
      let f : m + suc x ≡ suc m + x = omega arith in
      let k = to_gathered (suc m) orders x order at (subst Q f h) in
      subst R (sym (gathers.next m o orders)) (k.0, in_right (tells m o) (all (suc m) orders) k.0 k.1, k.2)

-- what is told of all orders is co of an execution that has these orders
pub told_done : (n : ℕ) (g k : GraphValue) (tells : ℕ → List EventId → List (List EventId)) (all : ℕ → List (List EventId) → List (List EventId)) → Gathers tells all → structure_of g ≡ structure_of k → k.co ≡ all 0 g.co →
    (x : ℕ) (r : Relation) → length g.co ≤ x → IsExactly n (ByNumbers g (IsToldAmong tells g x)) r → IsExactly n (NamedRel k Co) r
unfolding NamedRel
told_done n g k tells all gathers same co x r l h =
    let names : event_names g ≡ event_names k = names_same g k same in
    reworded n (ByNumbers g (IsToldAmong tells g x)) (NamedRel k Co) r
    (λ i j y. (let z : IsToldAmong tells g x y.0 y.1 = y.4 in
    let P : List EventId → Type 0 = λ ds. StandsAt ds i y.0 in
    let Q : List EventId → Type 0 = λ ds. StandsAt ds j y.1 in
    let R : ℕ → Type 0 = λ b. IsBeforeInOne (tells b z.1) y.0 y.1 in
    let f : z.0 ≡ 0 + z.0 = omega arith in
    let a = to_gathered tells all gathers y.0 y.1 0 g.co z.0 z.1 z.3 (subst R f z.4) in
    let b = in_stands (all 0 g.co) a.0 a.1 in
    let S : List (List EventId) → Type 0 = λ os. StandsAt os b.0 a.0 in
    (y.0, y.1, subst P names y.2, subst Q names y.3, (b.0, a.0, subst S (sym co) b.1, a.2))))
    (λ i j a b y. (let z : IsCoherenceBefore k y.0 y.1 = y.4 in
    let P : List EventId → Type 0 = λ ds. StandsAt ds i y.0 in
    let Q : List EventId → Type 0 = λ ds. StandsAt ds j y.1 in
    let S : List (List EventId) → Type 0 = λ os. StandsAt os z.0 z.1 in
    let c = from_gathered tells all gathers y.0 y.1 0 g.co (z.1, stands_in (all 0 g.co) z.0 z.1 (subst S co z.2), z.3) in
    let R : ℕ → Type 0 = λ b. IsBeforeInOne (tells b c.1) y.0 y.1 in
    let f : 0 + c.0 ≡ c.0 = omega arith in
    (y.0, y.1, subst P (sym names) y.2, subst Q (sym names) y.3, (c.0, c.1, omega (arith, l, stands_below g.co c.0 c.1 c.2), c.2, subst R f c.3)))) h
