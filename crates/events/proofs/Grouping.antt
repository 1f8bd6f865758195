-- Events that are related to those of a group: of their thread, or of their location.
use Rattle.std.proofs.Common.{◌≡◌, ℕ, ◌+◌, ◌<◌, ◌≤◌, ◌⊎◌, length, get_or, refl, sym, ◌∙◌, subst, inl, inr, arith}
use Rattle.std.proofs.lemmas.Bool.{cases_eq}
use Rattle.relations.specs.Events.{EventSet, Has, IsExactlySet}
use Rattle.relations.specs.Relation.{Relation, In, IsExactly, IsCanonical}
use Rattle.relations.specs.Equality.{reworded_set, reworded}
use Rattle.events.specs.declared.event.EventId.{EventId}
use Rattle.events.specs.declared.event.EventId.TheVariants.{Initial, Own}
use Rattle.events.specs.declared.named.RelName.TheVariants.{Po, Int, Loc}
use Rattle.events.specs.declared.named.SetName.TheVariants.{InitialWrites}
use Rattle.events.specs.Executions.{GraphValue, IsNamed, empty_run}
use Rattle.events.specs.Named.{event_names, location_of, IsBefore, IsInitial, IsInternal, IsMemory, IsNumber, NamedSet, NamedRel}
use Rattle.events.specs.Rows.{ByNumber, ByNumbers, IsAccessOf, IsAmongThreads, IsBegun, IsFrom, Starting}
use Rattle.events.proofs.Adding.{by_step, nothing_more}
use Rattle.events.proofs.Direct.{named_at}
use Rattle.events.proofs.Numbers.{own}
use Rattle.events.proofs.Standing.{one_stands}

-- A GROUP, NUMBER BY NUMBER

pub group_begun : (s : EventSet) (o : Relation) → IsCanonical o → IsExactly o.count (λ i j. In o i j ⊎ ((i < 0) × Has s i × Has s j)) o
group_begun s o c = nothing_more o.count (λ i j. (i < 0) × Has s i × Has s j) o refl c (λ i j x. (let z : ⊥ = omega (arith, x.0) in z))

pub group_more : (n k : ℕ) (s : EventSet) (o r t : Relation) → IsExactly n (λ i j. In o i j ⊎ ((i < k) × Has s i × Has s j)) r → Has s k →
    IsExactly r.count (λ i j. In r i j ⊎ ((i ≡ k) × Has s j)) t → IsExactly n (λ i j. In o i j ⊎ ((i < k + 1) × Has s i × Has s j)) t
group_more n k s o r t h m f =
    let R : ℕ → Type 0 = λ c. IsExactly c (λ i j. In r i j ⊎ ((i ≡ k) × Has s j)) t in
    let P : ℕ → Type 0 = λ i. Has s i in
    let u : IsExactly n (λ i j. In r i j ⊎ ((i ≡ k) × Has s j)) t = subst R h.count f in
    record {
      count = u.count;
      only = λ i j x. elim (u.only i j x) [
        | inl y ↦ elim (h.only i j y) [ inl z ↦ inl z | inr z ↦ inr (omega (arith, z.0), z.1, z.2) ]
        | inr y ↦ inr (omega (arith, y.0), subst P (sym y.0) m, y.1)
      ];
      all = λ i j a b x. elim x [
        | inl y ↦ u.all i j a b (inl (h.all i j a b (inl y)))
        | inr y ↦ elim (cases_eq i k) [
          | inl e ↦ u.all i j a b (inr (e, y.2))
          | inr d ↦ u.all i j a b (inl (h.all i j a b (inr (omega (arith, y.0, d), y.1, y.2))))
        ]
      ];
      canonical = u.canonical;
    }

pub group_passed : (n k : ℕ) (s : EventSet) (o r : Relation) → IsExactly n (λ i j. In o i j ⊎ ((i < k) × Has s i × Has s j)) r → (Has s k → ⊥) →
    IsExactly n (λ i j. In o i j ⊎ ((i < k + 1) × Has s i × Has s j)) r
group_passed n k s o r h out =
    let P : ℕ → Type 0 = λ i. Has s i in
    reworded n (λ i j. In o i j ⊎ ((i < k) × Has s i × Has s j)) (λ i j. In o i j ⊎ ((i < k + 1) × Has s i × Has s j)) r
    (λ i j x. elim x [ inl y ↦ inl y | inr y ↦ inr (omega (arith, y.0), y.1, y.2) ])
    (λ i j a b x. elim x [
      | inl y ↦ inl y
      | inr y ↦ elim (cases_eq i k) [ inl e ↦ absurd (out (subst P e y.1)) | inr d ↦ inr (omega (arith, y.0, d), y.1, y.2) ]
    ]) h

pub group_full : (n k : ℕ) (s : EventSet) (o r : Relation) → IsExactly n (λ i j. In o i j ⊎ ((i < k) × Has s i × Has s j)) r → ((k < n) → ⊥) →
    IsExactly n (λ i j. In o i j ⊎ (Has s i × Has s j)) r
group_full n k s o r h end =
    reworded n (λ i j. In o i j ⊎ ((i < k) × Has s i × Has s j)) (λ i j. In o i j ⊎ (Has s i × Has s j)) r
    (λ i j x. elim x [ inl y ↦ inl y | inr y ↦ inr (y.1, y.2) ])
    (λ i j a b x. elim x [ inl y ↦ inl y | inr y ↦ inr (omega (arith, a, end), y.0, y.1) ]) h

-- A THREAD, FROM ITS LAST EVENT ON

from_less : (k p q : ℕ) (e : EventId) → q ≡ p + 1 → IsFrom k q e → IsFrom k p e
from_less k p q (Initial x) f h = absurd h
from_less k p q (Own l m) f h = (h.0, omega (arith, f, h.1))

from_split : (k p q : ℕ) (e : EventId) → q ≡ p + 1 → IsFrom k p e → (e ≡ Own k p) ⊎ IsFrom k q e
from_split k p q (Initial x) f h = absurd h
from_split k p q (Own l m) f h = elim (cases_eq m p) [ inl e ↦ inl (own l k m p (sym h.0) e) | inr d ↦ inr (h.0, omega (arith, f, h.1, d)) ]

from_before : (k p q : ℕ) (e : EventId) → q ≡ p + 1 → IsFrom k q e → IsBefore (Own k p) e
from_before k p q (Initial x) f h = absurd h
from_before k p q (Own l m) f h = (h.0, omega (arith, f, h.1))

before_from : (k p q : ℕ) (e : EventId) → q ≡ p + 1 → IsBefore (Own k p) e → IsFrom k q e
before_from k p q (Initial x) f h = absurd h
before_from k p q (Own l m) f h = (h.0, omega (arith, f, h.1))

-- no event of a thread stands behind its last
none_past : (g : GraphValue) (k p i : ℕ) (e : EventId) → p ≡ length (get_or g.runs k empty_run).events → IsNumber g i e → IsFrom k p e → ⊥
none_past g k p i (Initial x) f s h = absurd h
none_past g k p i (Own l q) f s h =
    let P : ℕ → Type 0 = λ m. q < length (get_or g.runs m empty_run).events in
    let n : (l < length g.runs) × (q < length (get_or g.runs l empty_run).events) = named_at g (Own l q) i s in
    let z : ⊥ = omega (arith, f, h.1, subst P (sym h.0) n.1) in z

module _ (n : ℕ) (g : GraphValue) (k : ℕ) where
  pub own_begun : (p : ℕ) (s : EventSet) → p ≡ length (get_or g.runs k empty_run).events → IsExactlySet n (λ i. ⊥) s → IsExactlySet n (ByNumber g (IsFrom k p)) s
  own_begun p s e h = reworded_set n (λ i. ⊥) (ByNumber g (IsFrom k p)) s (λ i x. absurd x) (λ i l x. none_past g k p i x.0 e x.1 x.2) h

  pub po_begun : (p : ℕ) (r : Relation) → p ≡ length (get_or g.runs k empty_run).events → r.count ≡ n → IsCanonical r →
      IsExactly n (λ i j. In r i j ⊎ ByNumbers g (Starting (IsFrom k p) IsBefore) i j) r
  po_begun p r e c d = nothing_more n (ByNumbers g (Starting (IsFrom k p) IsBefore)) r c d (λ i j x. none_past g k p i x.0 e x.2 x.4.0)

  pub own_more : (p q : ℕ) (s t : EventSet) → q ≡ p + 1 → IsExactlySet n (ByNumber g (IsFrom k q)) s →
      IsExactlySet n (λ j. Has s j ⊎ IsNumber g j (Own k p)) t → IsExactlySet n (ByNumber g (IsFrom k p)) t
  own_more p q s t f h l =
      reworded_set n (λ j. Has s j ⊎ IsNumber g j (Own k p)) (ByNumber g (IsFrom k p)) t
      (λ i x. elim x [
        | inl y ↦ (let z : ByNumber g (IsFrom k q) i = h.only i y in (z.0, z.1, from_less k p q z.0 f z.2))
        | inr y ↦ (Own k p, y, (refl, omega arith))
      ])
      (λ i a x. elim (from_split k p q x.0 f x.2) [
        | inl e ↦ inr (let P : EventId → Type 0 = λ d. IsNumber g i d in subst P e x.1)
        | inr y ↦ inl (h.all i a (x.0, x.1, y))
      ]) l

  pub po_more : (p q : ℕ) (s : EventSet) (o r t : Relation) → q ≡ p + 1 → IsExactlySet n (ByNumber g (IsFrom k q)) s →
      IsExactly n (λ i j. In o i j ⊎ ByNumbers g (Starting (IsFrom k q) IsBefore) i j) r → IsExactly n (λ i j. In r i j ⊎ (IsNumber g i (Own k p) × Has s j)) t →
      IsExactly n (λ i j. In o i j ⊎ ByNumbers g (Starting (IsFrom k p) IsBefore) i j) t
  po_more p q s o r t f h m l =
      reworded n (λ i j. In r i j ⊎ (IsNumber g i (Own k p) × Has s j)) (λ i j. In o i j ⊎ ByNumbers g (Starting (IsFrom k p) IsBefore) i j) t
      (λ i j x. elim x [
        | inl y ↦ elim (m.only i j y) [
          | inl z ↦ inl z
          | inr z ↦ inr (z.0, z.1, z.2, z.3, (from_less k p q z.0 f z.4.0, z.4.1))
        ]
        | inr y ↦ (let z : ByNumber g (IsFrom k q) j = h.only j y.1 in
            inr (Own k p, z.0, y.0, z.1, ((refl, omega arith), from_before k p q z.0 f z.2)))
      ])
      (λ i j a b x. elim x [
        | inl y ↦ inl (m.all i j a b (inl y))
        | inr y ↦ elim (from_split k p q y.0 f y.4.0) [
          | inl e ↦
              (let P : EventId → Type 0 = λ d. IsNumber g i d in
              let Q : EventId → Type 0 = λ d. IsBefore d y.1 in
              inr (subst P e y.2, h.all j b (y.1, y.3, before_from k p q y.1 f (subst Q e y.4.1))))
          | inr z ↦ inl (m.all i j a b (inr (y.0, y.1, y.2, y.3, (z, y.4.1))))
        ]
      ]) l

-- THREAD AFTER THREAD

among_more : (k : ℕ) (e : EventId) → IsAmongThreads k e → IsAmongThreads (k + 1) e
among_more k (Initial x) h = tt
among_more k (Own l q) h = omega (arith, h)

from_among : (k : ℕ) (e : EventId) → IsFrom k 0 e → IsAmongThreads (k + 1) e
from_among k (Initial x) h = absurd h
from_among k (Own l q) h = omega (arith, h.0)

among_split : (k : ℕ) (e : EventId) → IsAmongThreads (k + 1) e → IsAmongThreads k e ⊎ IsFrom k 0 e
among_split k (Initial x) h = inl tt
among_split k (Own l q) h = elim (cases_eq l k) [ inl e ↦ inr (sym e, omega arith) | inr d ↦ inl (omega (arith, h, d)) ]

named_among : (g : GraphValue) (k : ℕ) (e : EventId) → length g.runs ≤ k → IsNamed g.init g.runs e → IsAmongThreads k e
named_among g k (Initial x) l h = tt
named_among g k (Own m q) l h = omega (arith, l, h.0)

none_before : (d e : EventId) → IsAmongThreads 0 d → IsBefore d e → ⊥
none_before (Initial x) e a h = h
none_before (Own l q) e a h = (let z : ⊥ = omega (arith, a) in z)

first_initial : (d e : EventId) → IsAmongThreads 0 d → IsInternal d e → IsInitial d × IsInitial e
first_initial (Initial x) (Initial y) a h = (tt, tt)
first_initial (Initial x) (Own l q) a h = absurd h
first_initial (Own k p) e a h = (let z : ⊥ = omega (arith, a) in absurd z)

initial_first : (d e : EventId) → IsInitial d → IsInitial e → IsAmongThreads 0 d × IsInternal d e
initial_first (Initial x) (Initial y) a b = (tt, tt)
initial_first (Initial x) (Own l q) a b = absurd b
initial_first (Own k p) e a b = absurd a

both_internal : (k : ℕ) (d e : EventId) → IsFrom k 0 d → IsFrom k 0 e → IsInternal d e
both_internal k (Initial x) e a b = absurd a
both_internal k (Own l p) (Initial y) a b = absurd b
both_internal k (Own l p) (Own m q) a b = sym a.0 ∙ b.0

internal_from : (k : ℕ) (d e : EventId) → IsFrom k 0 d → IsInternal d e → IsFrom k 0 e
internal_from k (Initial x) e a h = absurd a
internal_from k (Own l p) (Initial y) a h = absurd h
internal_from k (Own l p) (Own m q) a h = (a.0 ∙ h, omega arith)

module _ (n : ℕ) (g : GraphValue) where
  pub threads_begun : (r : Relation) → IsExactly n (λ i j. ⊥) r → IsExactly n (ByNumbers g (Starting (IsAmongThreads 0) IsBefore)) r
  threads_begun r h =
      reworded n (λ i j. ⊥) (ByNumbers g (Starting (IsAmongThreads 0) IsBefore)) r (λ i j x. absurd x)
      (λ i j a b x. none_before x.0 x.1 x.4.0 x.4.1) h

  pub initial_begun : (s : EventSet) (o r : Relation) → IsExactlySet n (NamedSet g InitialWrites) s → IsExactly n (λ i j. ⊥) o → IsExactly o.count (λ i j. In o i j ⊎ (Has s i × Has s j)) r →
      IsExactly n (ByNumbers g (Starting (IsAmongThreads 0) IsInternal)) r
  unfolding NamedSet
  initial_begun s o r h k l =
      let R : ℕ → Type 0 = λ c. IsExactly c (λ i j. In o i j ⊎ (Has s i × Has s j)) r in
      reworded n (λ i j. In o i j ⊎ (Has s i × Has s j)) (ByNumbers g (Starting (IsAmongThreads 0) IsInternal)) r
      (λ i j x. elim x [
        | inl y ↦ absurd (k.only i j y)
        | inr y ↦
            (let d : NamedSet g InitialWrites i = h.only i y.0 in
            let e : NamedSet g InitialWrites j = h.only j y.1 in
            (d.0, e.0, d.1, e.1, initial_first d.0 e.0 d.2 e.2))
      ])
      (λ i j a b x. (let y : IsInitial x.0 × IsInitial x.1 = first_initial x.0 x.1 x.4.0 x.4.1 in
      inr (h.all i a (x.0, x.2, y.0), h.all j b (x.1, x.3, y.1))))
      (subst R k.count l)

  pub threads_more : (k : ℕ) (r t : Relation) → IsExactly n (ByNumbers g (Starting (IsAmongThreads k) IsBefore)) r →
      IsExactly n (λ i j. In r i j ⊎ ByNumbers g (Starting (IsFrom k 0) IsBefore) i j) t → IsExactly n (ByNumbers g (Starting (IsAmongThreads (k + 1)) IsBefore)) t
  threads_more k r t h l =
      by_step n g (Starting (IsAmongThreads k) IsBefore) (Starting (IsFrom k 0) IsBefore) (Starting (IsAmongThreads (k + 1)) IsBefore) r t
      (λ d e y. (among_more k d y.0, y.1))
      (λ d e y. (from_among k d y.0, y.1))
      (λ d e y. elim (among_split k d y.0) [ inl z ↦ inl (z, y.1) | inr z ↦ inr (z, y.1) ]) h l

  pub groups_more : (k : ℕ) (s : EventSet) (r t : Relation) → IsExactlySet n (ByNumber g (IsFrom k 0)) s → IsExactly n (ByNumbers g (Starting (IsAmongThreads k) IsInternal)) r →
      IsExactly r.count (λ i j. In r i j ⊎ (Has s i × Has s j)) t → IsExactly n (ByNumbers g (Starting (IsAmongThreads (k + 1)) IsInternal)) t
  groups_more k s r t m h l =
      let R : ℕ → Type 0 = λ c. IsExactly c (λ i j. In r i j ⊎ (Has s i × Has s j)) t in
      let Both : EventId → EventId → Type 0 = λ d e. IsFrom k 0 d × IsFrom k 0 e in
      by_step n g (Starting (IsAmongThreads k) IsInternal) Both (Starting (IsAmongThreads (k + 1)) IsInternal) r t
      (λ d e y. (among_more k d y.0, y.1))
      (λ d e y. (from_among k d y.0, both_internal k d e y.0 y.1))
      (λ d e y. elim (among_split k d y.0) [ inl z ↦ inl (z, y.1) | inr z ↦ inr (z, internal_from k d e z y.1) ]) h
      (reworded n (λ i j. In r i j ⊎ (Has s i × Has s j)) (λ i j. In r i j ⊎ ByNumbers g Both i j) t
      (λ i j x. elim x [
        | inl y ↦ inl y
        | inr y ↦
            (let d : ByNumber g (IsFrom k 0) i = m.only i y.0 in
            let e : ByNumber g (IsFrom k 0) j = m.only j y.1 in
            inr (d.0, e.0, d.1, e.1, (d.2, e.2)))
      ])
      (λ i j a b x. elim x [ inl y ↦ inl y | inr y ↦ inr (m.all i a (y.0, y.2, y.4.0), m.all j b (y.1, y.3, y.4.1)) ])
      (subst R h.count l))

  pub threads_full : (k : ℕ) (r : Relation) → length g.runs ≤ k → IsExactly n (ByNumbers g (Starting (IsAmongThreads k) IsBefore)) r → IsExactly n (NamedRel g Po) r
  unfolding NamedRel
  threads_full k r l h =
      reworded n (ByNumbers g (Starting (IsAmongThreads k) IsBefore)) (NamedRel g Po) r
      (λ i j x. (x.0, x.1, x.2, x.3, x.4.1))
      (λ i j a b x. (x.0, x.1, x.2, x.3, (named_among g k x.0 l (named_at g x.0 i x.2), x.4))) h

  pub groups_full : (k : ℕ) (r : Relation) → length g.runs ≤ k → IsExactly n (ByNumbers g (Starting (IsAmongThreads k) IsInternal)) r → IsExactly n (NamedRel g Int) r
  unfolding NamedRel
  groups_full k r l h =
      reworded n (ByNumbers g (Starting (IsAmongThreads k) IsInternal)) (NamedRel g Int) r
      (λ i j x. (x.0, x.1, x.2, x.3, x.4.1))
      (λ i j a b x. (x.0, x.1, x.2, x.3, (named_among g k x.0 l (named_at g x.0 i x.2), x.4))) h

-- LOCATION AFTER LOCATION

beside_turned : (g : GraphValue) (i j : ℕ) → NamedRel g Loc i j → NamedRel g Loc j i
unfolding NamedRel
beside_turned g i j h = (h.1, h.0, h.3, h.2, (h.4.1, h.4.0, sym h.4.2))

beside_on : (g : GraphValue) (i j m : ℕ) → NamedRel g Loc i j → NamedRel g Loc j m → NamedRel g Loc i m
unfolding NamedRel
beside_on g i j m h k =
    let P : EventId → Type 0 = λ e. location_of g e ≡ location_of g k.1 in
    (h.0, k.1, h.2, k.3, (h.4.0, k.4.1, h.4.2 ∙ subst P (one_stands (event_names g) j k.0 h.1 k.2 h.3) k.4.2))

pub locations_begun : (n : ℕ) (P : ℕ → ℕ → Type 0) (r : Relation) → IsExactly n (λ i j. ⊥) r → IsExactly n (IsBegun 0 P) r
locations_begun n P r h =
    reworded n (λ i j. ⊥) (IsBegun 0 P) r (λ i j x. absurd x) (λ i j a b x. (let z : ⊥ = omega (arith, x.1.1) in z)) h

pub location_in : (n k : ℕ) (g : GraphValue) (r : Relation) → IsExactly n (IsBegun k (NamedRel g Loc)) r → In r k k → IsExactly n (IsBegun (k + 1) (NamedRel g Loc)) r
location_in n k g r h m =
    reworded n (IsBegun k (NamedRel g Loc)) (IsBegun (k + 1) (NamedRel g Loc)) r
    (λ i j x. (x.0, (x.1.0, omega (arith, x.1.1), x.1.2)))
    (λ i j a b x. (
      x.0,
      elim (cases_eq x.1.0 k) [
        | inl e ↦
            (let P : ℕ → Type 0 = λ c. NamedRel g Loc c i in
            let y : IsBegun k (NamedRel g Loc) k k = h.only k k m in
            (y.1.0, y.1.1, beside_on g y.1.0 k i y.1.2 (subst P e x.1.2)))
        | inr d ↦ (x.1.0, omega (arith, x.1.1, d), x.1.2)
      ],
    )) h

pub location_more : (n k : ℕ) (g : GraphValue) (s : EventSet) (r t : Relation) → IsExactly n (IsBegun k (NamedRel g Loc)) r → IsExactlySet n (NamedRel g Loc k) s →
    IsExactly r.count (λ i j. In r i j ⊎ (Has s i × Has s j)) t → IsExactly n (IsBegun (k + 1) (NamedRel g Loc)) t
location_more n k g s r t h m l =
    let R : ℕ → Type 0 = λ c. IsExactly c (λ i j. In r i j ⊎ (Has s i × Has s j)) t in
    reworded n (λ i j. In r i j ⊎ (Has s i × Has s j)) (IsBegun (k + 1) (NamedRel g Loc)) t
    (λ i j x. elim x [
      | inl y ↦ (let z : IsBegun k (NamedRel g Loc) i j = h.only i j y in (z.0, (z.1.0, omega (arith, z.1.1), z.1.2)))
      | inr y ↦ (beside_on g i k j (beside_turned g k i (m.only i y.0)) (m.only j y.1), (k, omega arith, m.only i y.0))
    ])
    (λ i j a b x. elim (cases_eq x.1.0 k) [
      | inl e ↦
          (let P : ℕ → Type 0 = λ c. NamedRel g Loc c i in
          let y : NamedRel g Loc k i = subst P e x.1.2 in
          inr (m.all i a y, m.all j b (beside_on g k i j y x.0)))
      | inr d ↦ inl (h.all i j a b (x.0, (x.1.0, omega (arith, x.1.1, d), x.1.2)))
    ])
    (subst R h.count l)

pub locations_full : (n k : ℕ) (g : GraphValue) (r : Relation) → IsExactly n (IsBegun k (NamedRel g Loc)) r → ((k < n) → ⊥) → IsExactly n (NamedRel g Loc) r
locations_full n k g r h end =
    reworded n (IsBegun k (NamedRel g Loc)) (NamedRel g Loc) r (λ i j x. x.0)
    (λ i j a b x. (x, (j, omega (arith, b, end), beside_turned g i j x))) h

pub accesses_beside : (n k : ℕ) (g : GraphValue) (e : EventId) (x : ℕ) (s : EventSet) → IsNumber g k e → IsMemory g e → x ≡ location_of g e →
    IsExactlySet n (ByNumber g (IsAccessOf g x)) s → IsExactlySet n (NamedRel g Loc k) s
unfolding NamedRel
accesses_beside n k g e x s at m f h =
    reworded_set n (ByNumber g (IsAccessOf g x)) (NamedRel g Loc k) s
    (λ i y. (e, y.0, at, y.1, (m, y.2.0, sym f ∙ sym y.2.1)))
    (λ i l y. (let P : EventId → Type 0 = λ d. location_of g d ≡ location_of g y.1 in
    (y.1, y.3, (y.4.1, sym (subst P (one_stands (event_names g) k y.0 e y.2 at) y.4.2) ∙ sym f)))) h

pub none_beside : (n k : ℕ) (g : GraphValue) (e : EventId) (s : EventSet) → IsNumber g k e → (IsMemory g e → ⊥) → IsExactlySet n (λ i. ⊥) s → IsExactlySet n (NamedRel g Loc k) s
unfolding NamedRel
none_beside n k g e s at out h =
    reworded_set n (λ i. ⊥) (NamedRel g Loc k) s (λ i y. absurd y)
    (λ i l y. (let P : EventId → Type 0 = λ d. IsMemory g d in out (subst P (one_stands (event_names g) k y.0 e y.2 at) y.4.0))) h
