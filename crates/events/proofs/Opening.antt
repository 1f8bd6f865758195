-- What stands before what, where some writes of an order are open.
use Rattle.std.proofs.Common.{◌≡◌, ◌≢◌, ℕ, ◌<◌, ◌⊎◌, ◌==◌, nat_lt, List, [], ◌∷◌, ◌++◌, drop, true, not, refl, sym, ◌∙◌, subst, inl, inr, arith}
use Rattle.std.proofs.lemmas.Bool.{cases_Bool, false≢true, lt-ltb, le-ltb, eq-eqb, ne_eqb, cond-true, cond-false, not_from_true, not_from_false}
use Rattle.listings.specs.Lists.{IsIn}
use Rattle.listings.proofs.Listings.{in_append, in_left, in_right, in_flat_map, flat_map_in}
use Rattle.relations.specs.Algebra.{Within}
use Rattle.relations.specs.Equality.{reworded_set, reworded}
use Rattle.relations.specs.Events.{EventSet, Has, IsExactlySet}
use Rattle.relations.specs.Relation.{Relation, In, IsExactly, IsCanonical}
use Rattle.events.specs.declared.event.EventId.{EventId}
use Rattle.events.specs.Cuts.{same_event, IsBeforeInOne}
use Rattle.events.specs.Executions.{GraphValue}
use Rattle.events.specs.Extends.{IsPart}
use Rattle.events.specs.Named.{event_names, event_count, IsNumber, StandsBefore}
use Rattle.events.specs.Opened.{without, either_way, opened_order, open_of, opened_of, opened_from}
use Rattle.events.specs.Rows.{ByNumbers, IsNumberOfOne, AreTwoOf, AreTwoEitherWay}
use Rattle.events.proofs.Adding.{nothing_more, one_number, number_below, row_more}
use Rattle.events.proofs.Cutting.{before_head, before_tail, before_split, before_none, same_is, same_self, Gathers}
use Rattle.events.proofs.Extending.{part_before}
use Rattle.events.proofs.Standing.{one_stands}

-- AN ORDER WITHOUT A WRITE

-- the test of one write
leaves : (w v : EventId) (vs : List EventId) → ((without w (v ∷ vs) ≡ v ∷ without w vs) × (w ≢ v)) ⊎ ((without w (v ∷ vs) ≡ without w vs) × (w ≡ v))
leaves w v vs = elim (cases_Bool (same_event w v)) [
  | inl t ↦ inr (cond-false (not (same_event w v)) (v ∷ without w vs) (without w vs) (not_from_true (same_event w v) t), same_is w v t)
  | inr f ↦ inl (
    cond-true (not (same_event w v)) (v ∷ without w vs) (without w vs) (not_from_false (same_event w v) f),
    λ e. (let P : EventId → Type 0 = λ x. same_event w x ≡ true in false≢true (sym f ∙ subst P e (same_self w))),
  )
]

in_without : (w : EventId) (vs : List EventId) (e : EventId) → IsIn e (without w vs) → IsIn e vs × (w ≢ e)
in_without w [] e h = absurd h
in_without w (v ∷ vs) e h =
    let P : List EventId → Type 0 = λ xs. IsIn e xs in
    elim (leaves w v vs) [
      | inl k ↦ elim (subst P k.0 h) [
        | inl q ↦ (inl q, (let Q : EventId → Type 0 = λ x. w ≢ x in subst Q (sym q) k.1))
        | inr q ↦ (let r = in_without w vs e q in (inr r.0, r.1))
      ]
      | inr k ↦ (let r = in_without w vs e (subst P k.0 h) in (inr r.0, r.1))
    ]

pub without_in : (w : EventId) (vs : List EventId) (e : EventId) → IsIn e vs → w ≢ e → IsIn e (without w vs)
without_in w [] e h d = absurd h
without_in w (v ∷ vs) e h d =
    let P : List EventId → Type 0 = λ xs. IsIn e xs in
    elim (leaves w v vs) [
      | inl k ↦ subst P (sym k.0) (elim h [ inl q ↦ inl q | inr q ↦ inr (without_in w vs e q d) ])
      | inr k ↦ subst P (sym k.0) (elim h [ inl q ↦ absurd (d (k.1 ∙ sym q)) | inr q ↦ without_in w vs e q d ])
    ]

passed : (xs : List EventId) (y : EventId) (ys : List EventId) → IsPart xs ys → IsPart xs (y ∷ ys)
passed [] y ys p = tt
passed (x ∷ xs) y ys p = inr p

without_part : (w : EventId) (vs : List EventId) → IsPart (without w vs) vs
without_part w [] = tt
without_part w (v ∷ vs) =
    let P : List EventId → Type 0 = λ xs. IsPart xs (v ∷ vs) in
    elim (leaves w v vs) [
      | inl k ↦ subst P (sym k.0) (inl (refl, without_part w vs))
      | inr k ↦ subst P (sym k.0) (passed (without w vs) v vs (without_part w vs))
    ]

-- A WRITE AT AN END

-- before the last, or before one another
before_last : (xs : List EventId) (w d e : EventId) → StandsBefore (xs ++ w ∷ []) d e → (IsIn d xs × (e ≡ w)) ⊎ StandsBefore xs d e
before_last [] w d e h = absurd (elim (before_split w [] d e h) [ inl a ↦ a.1 | inr a ↦ before_none d e a ])
before_last (x ∷ xs) w d e h = elim (before_split x (xs ++ w ∷ []) d e h) [
  | inl a ↦ elim (in_append xs (w ∷ []) e a.1) [
    | inl b ↦ inr (before_head x xs d e (a.0, b))
    | inr b ↦ inl (inl a.0, elim b [ inl c ↦ c | inr c ↦ absurd c ])
  ]
  | inr a ↦ elim (before_last xs w d e a) [
    | inl b ↦ inl (inr b.0, b.1)
    | inr b ↦ inr (before_tail x xs d e b)
  ]
]

pub last_before : (xs : List EventId) (w d : EventId) → IsIn d xs → StandsBefore (xs ++ w ∷ []) d w
last_before [] w d h = absurd h
last_before (x ∷ xs) w d h = elim h [
  | inl a ↦ before_head x (xs ++ w ∷ []) d w (a, in_right xs (w ∷ []) w (inl refl))
  | inr a ↦ before_tail x (xs ++ w ∷ []) d w (last_before xs w d a)
]

later_before : (order : List EventId) (d e : EventId) → StandsBefore (drop 1 order) d e → StandsBefore order d e
later_before [] d e h = h
later_before (x ∷ xs) d e h = before_tail x xs d e h

-- what stands before so where an open write is left out
rest_before : (order : List EventId) (w d e : EventId) → StandsBefore (without w (drop 1 order)) d e → StandsBefore order d e
rest_before order w d e h = later_before order d e (part_before (without w (drop 1 order)) (drop 1 order) d e (without_part w (drop 1 order)) h)

-- OPENED ORDERS, AS PAIRS

apart : (d e : EventId) → d ≢ e → e ≢ d
apart d e n f = n (sym f)

-- at either end
opened_ends : (order : List EventId) (ws : List EventId) (w : EventId) → IsIn w ws → (d e : EventId) → IsBeforeInOne (either_way (drop 1 order) w) d e → StandsBefore order d e ⊎ AreTwoEitherWay ws (drop 1 order) d e
opened_ends order ws w m d e h =
    let later = drop 1 order in
    let P : List EventId → Type 0 = λ xs. StandsBefore xs d e in
    elim h.1 [
      | inl q ↦ elim (before_split w (without w later) d e (subst P q h.2)) [
        | inl a ↦
            (let b = in_without w later e a.1 in
            let Q : EventId → Type 0 = λ x. AreTwoEitherWay ws later x e in
            inr (subst Q (sym a.0) (inl (m, b.0, b.1))))
        | inr a ↦ inl (rest_before order w d e a)
      ]
      | inr q ↦ elim q [
        | inl f ↦ elim (before_last (without w later) w d e (subst P f h.2)) [
          | inl a ↦
              (let b = in_without w later d a.0 in
              let Q : EventId → Type 0 = λ x. AreTwoEitherWay ws later d x in
              inr (subst Q (sym a.1) (inr (b.0, m, apart w d b.1))))
          | inr a ↦ inl (rest_before order w d e a)
        ]
        | inr f ↦ absurd f
      ]
    ]

opened_pairs : (order ws : List EventId) (d e : EventId) → IsBeforeInOne (opened_order order ws) d e → StandsBefore order d e ⊎ AreTwoEitherWay ws (drop 1 order) d e
opened_pairs order ws d e h =
    let P : List EventId → Type 0 = λ xs. StandsBefore xs d e in
    elim h.1 [
      | inl q ↦ inl (subst P q h.2)
      | inr q ↦ (let k = in_flat_map (either_way (drop 1 order)) ws h.0 q in opened_ends order ws k.0 k.1 d e (h.0, k.2, h.2))
    ]

pub pairs_opened : (order ws : List EventId) (d e : EventId) → AreTwoEitherWay ws (drop 1 order) d e → IsBeforeInOne (opened_order order ws) d e
pairs_opened order ws d e h =
    let later = drop 1 order in
    elim h [
      | inl a ↦ (
        d ∷ without d later,
        inr (flat_map_in (either_way later) ws d (d ∷ without d later) a.0 (inl refl)),
        before_head d (without d later) d e (refl, without_in d later e a.1 a.2),
      )
      | inr a ↦ (
        without e later ++ e ∷ [],
        inr (flat_map_in (either_way later) ws e (without e later ++ e ∷ []) a.1 (inr (inl refl))),
        last_before (without e later) e d (without_in e later d a.0 (apart d e a.2)),
      )
    ]

-- PAIRS THAT ARE ADDED

-- what is added in two steps is added
pub added : (n : ℕ) (P Q R : ℕ → ℕ → Type 0) (o r t : Relation) → Within P R → Within Q R → ((i j : ℕ) → R i j → P i j ⊎ Q i j) → IsExactly n (λ i j. In o i j ⊎ P i j) r → IsExactly n (λ i j. In r i j ⊎ Q i j) t →
    IsExactly n (λ i j. In o i j ⊎ R i j) t
added n P Q R o r t f k m h l = record {
  count = l.count;
  only = λ i j x. elim (l.only i j x) [
    | inl y ↦ elim (h.only i j y) [ inl z ↦ inl z | inr z ↦ inr (f i j z) ]
    | inr y ↦ inr (k i j y)
  ];
  all = λ i j a b x. elim x [
    | inl y ↦ l.all i j a b (inl (h.all i j a b (inl y)))
    | inr y ↦ elim (m i j y) [
      | inl z ↦ l.all i j a b (inl (h.all i j a b (inr z)))
      | inr z ↦ l.all i j a b (inr z)
    ]
  ];
  canonical = l.canonical;
}

-- the same of pairs of events
pub added_pairs : (n : ℕ) (g : GraphValue) (P Q R : EventId → EventId → Type 0) (o r t : Relation) → ((d e : EventId) → P d e → R d e) → ((d e : EventId) → Q d e → R d e) → ((d e : EventId) → R d e → P d e ⊎ Q d e) →
    IsExactly n (λ i j. In o i j ⊎ ByNumbers g P i j) r → IsExactly n (λ i j. In r i j ⊎ ByNumbers g Q i j) t → IsExactly n (λ i j. In o i j ⊎ ByNumbers g R i j) t
added_pairs n g P Q R o r t f k m =
    added n (ByNumbers g P) (ByNumbers g Q) (ByNumbers g R) o r t
    (λ i j x. (x.0, x.1, x.2, x.3, f x.0 x.1 x.4))
    (λ i j x. (x.0, x.1, x.2, x.3, k x.0 x.1 x.4))
    (λ i j x. elim (m x.0 x.1 x.4) [ inl y ↦ inl (x.0, x.1, x.2, x.3, y) | inr y ↦ inr (x.0, x.1, x.2, x.3, y) ])

-- one number alone
pub number_alone : (n m from : ℕ) (s t : EventSet) → m ≡ n → IsExactlySet m (λ i. ⊥) s → IsExactlySet s.count (λ i. Has s i ⊎ (i ≡ from)) t → IsExactlySet n (λ i. i ≡ from) t
number_alone n m from s t e h k =
    let P : ℕ → Type 0 = λ b. IsExactlySet b (λ i. Has s i ⊎ (i ≡ from)) t in
    reworded_set n (λ i. Has s i ⊎ (i ≡ from)) (λ i. i ≡ from) t (λ i x. elim x [ inl y ↦ absurd (h.only i y) | inr y ↦ y ]) (λ i l x. inr x) (subst P (h.count ∙ e) k)

-- the pairs of an event with the others of some numbers
pub other_more : (n m from : ℕ) (g : GraphValue) (d : EventId) (s own others : EventSet) (r t : Relation) → m ≡ n → n ≡ event_count g → s.count ≡ n → IsNumber g from d →
    IsExactlySet n (λ i. i ≡ from) own → IsExactlySet s.count (λ i. Has s i × (¬ Has own i)) others → IsExactly m (λ a b. In r a b ⊎ ((a ≡ from) × Has others b)) t →
    IsExactly n (λ i j. In r i j ⊎ (IsNumber g i d × Has s j × (¬ IsNumber g j d))) t
other_more n m from g d s own others r t f c k a o h l =
    reworded n (λ i j. In r i j ⊎ (IsNumber g i d × Has others j)) (λ i j. In r i j ⊎ (IsNumber g i d × Has s j × (¬ IsNumber g j d))) t
    (λ i j x. elim x [
      | inl y ↦ inl y
      | inr y ↦
          (let z = h.only j y.1 in
          inr (y.0, z.0, λ q. z.1 (o.all j (let b = number_below g j d q in omega (arith, b, c)) (one_number g d j from q a))))
    ])
    (λ i j u v x. elim x [
      | inl y ↦ inl y
      | inr y ↦ inr (y.0, h.all j (omega (arith, v, k)) (y.1, λ q. y.2 (let P : ℕ → Type 0 = λ b. IsNumber g b d in subst P (sym (o.only j q)) a)))
    ])
    (row_more n m from g d others r t f a l)

-- an event that has no number has no pairs
pub no_other : (n : ℕ) (g : GraphValue) (d : EventId) (s : EventSet) (r : Relation) → ((i : ℕ) → ¬ IsNumber g i d) → r.count ≡ n → IsCanonical r → IsExactly n (λ i j. In r i j ⊎ (IsNumber g i d × Has s j × (¬ IsNumber g j d))) r
no_other n g d s r f c k = nothing_more n (λ i j. IsNumber g i d × Has s j × (¬ IsNumber g j d)) r c k (λ i j x. f i x.0)

-- EVENTS WITH OTHERS, ONE AFTER ANOTHER

pub others_begun : (n : ℕ) (g : GraphValue) (es : List EventId) (r : Relation) → r.count ≡ n → IsCanonical r → IsExactly n (λ i j. In r i j ⊎ ByNumbers g (AreTwoOf [] es) i j) r
others_begun n g es r c k = nothing_more n (ByNumbers g (AreTwoOf [] es)) r c k (λ i j x. x.4.0)

-- the events so far, and one more
pub others_on : (n : ℕ) (g : GraphValue) (ds es : List EventId) (d : EventId) (s : EventSet) (o r t : Relation) → n ≡ event_count g → IsExactlySet n (IsNumberOfOne g es) s → IsExactly n (λ i j. In o i j ⊎ ByNumbers g (AreTwoOf ds es) i j) r →
    IsExactly n (λ i j. In r i j ⊎ (IsNumber g i d × Has s j × (¬ IsNumber g j d))) t → IsExactly n (λ i j. In o i j ⊎ ByNumbers g (AreTwoOf (ds ++ d ∷ []) es) i j) t
others_on n g ds es d s o r t c h k l =
    added n (ByNumbers g (AreTwoOf ds es)) (λ i j. IsNumber g i d × Has s j × (¬ IsNumber g j d)) (ByNumbers g (AreTwoOf (ds ++ d ∷ []) es)) o r t
    (λ i j x. (x.0, x.1, x.2, x.3, (in_left ds (d ∷ []) x.0 x.4.0, x.4.1, x.4.2)))
    (λ i j x.
    (let y = h.only j x.1 in
    let P : EventId → Type 0 = λ z. IsNumber g j z in
    (d, y.0, x.0, y.1, (in_right ds (d ∷ []) d (inl refl), y.2, λ f. x.2 (subst P (sym f) y.1)))))
    (λ i j x. elim (in_append ds (d ∷ []) x.0 x.4.0) [
      | inl a ↦ inl (x.0, x.1, x.2, x.3, (a, x.4.1, x.4.2))
      | inr a ↦
          (let b : x.0 ≡ d = elim a [ inl q ↦ q | inr q ↦ absurd q ] in
          let P : EventId → Type 0 = λ z. IsNumber g i z in
          inr (
            subst P b x.2,
            h.all j (let m = number_below g j x.1 x.3 in omega (arith, m, c)) (x.1, x.3, x.4.1),
            λ q. x.4.2 (b ∙ one_stands (event_names g) j d x.1 q x.3),
          ))
    ]) k l

-- ONE ORDER

-- the open writes of a location: where it is free, is the one behind the free ones, and is behind that
pub open_free : (free : ℕ) (ws : List EventId) (x : ℕ) (order : List EventId) → x < free → open_of free ws x order ≡ drop 1 order
open_free free ws x order l = cond-true (nat_lt x free) (drop 1 order) _ (lt-ltb x free l)

pub open_next : (free : ℕ) (ws : List EventId) (x : ℕ) (order : List EventId) → x ≡ free → open_of free ws x order ≡ ws
open_next free ws x order e =
    cond-false (nat_lt x free) (drop 1 order) _ (le-ltb x free (omega (arith, e)))
    ∙ cond-true (x == free) ws [] (eq-eqb x free e)

pub open_none : (free : ℕ) (ws : List EventId) (x : ℕ) (order : List EventId) → free < x → open_of free ws x order ≡ []
open_none free ws x order l =
    cond-false (nat_lt x free) (drop 1 order) _ (le-ltb x free (omega (arith, l)))
    ∙ cond-false (x == free) ws [] (ne_eqb x free (λ e. omega (arith, l, e)))

module _ (n : ℕ) (g : GraphValue) (free : ℕ) (ws : List EventId) (x : ℕ) (order : List EventId) (o r t : Relation) where
  -- with these writes open
  opened_more : (vs later : List EventId) → open_of free ws x order ≡ vs → later ≡ drop 1 order → IsExactly n (λ i j. In o i j ⊎ ByNumbers g (StandsBefore order) i j) r →
      IsExactly n (λ i j. In r i j ⊎ ByNumbers g (AreTwoEitherWay vs later) i j) t → IsExactly n (λ i j. In o i j ⊎ ByNumbers g (IsBeforeInOne (opened_of free ws x order)) i j) t
  opened_more vs later e f h k =
      let P : List EventId → Type 0 = λ us. IsExactly n (λ i j. In o i j ⊎ ByNumbers g (IsBeforeInOne (opened_order order us)) i j) t in
      let Q : List EventId → Type 0 = λ us. IsExactly n (λ i j. In r i j ⊎ ByNumbers g (AreTwoEitherWay vs us) i j) t in
      subst P (sym e) (added_pairs n g (StandsBefore order) (AreTwoEitherWay vs (drop 1 order)) (IsBeforeInOne (opened_order order vs)) o r t
      (λ d e y. (order, inl refl, y)) (pairs_opened order vs) (opened_pairs order vs) h (subst Q f k))

  pub free_opened : x < free → (later : List EventId) → later ≡ drop 1 order → IsExactly n (λ i j. In o i j ⊎ ByNumbers g (StandsBefore order) i j) r →
      IsExactly n (λ i j. In r i j ⊎ ByNumbers g (AreTwoEitherWay later later) i j) t → IsExactly n (λ i j. In o i j ⊎ ByNumbers g (IsBeforeInOne (opened_of free ws x order)) i j) t
  free_opened l later f h k = opened_more later later (open_free free ws x order l ∙ sym f) f h k

  pub next_opened : x ≡ free → (later : List EventId) → later ≡ drop 1 order → IsExactly n (λ i j. In o i j ⊎ ByNumbers g (StandsBefore order) i j) r →
      IsExactly n (λ i j. In r i j ⊎ ByNumbers g (AreTwoEitherWay ws later) i j) t → IsExactly n (λ i j. In o i j ⊎ ByNumbers g (IsBeforeInOne (opened_of free ws x order)) i j) t
  next_opened e later f h k = opened_more ws later (open_next free ws x order e) f h k

-- ALL ORDERS

pub opened_gathers : (free : ℕ) (ws : List EventId) → Gathers (opened_of free ws) (opened_from free ws)
opened_gathers free ws = record { nothing = λ x. refl; next = λ x order orders. refl }
