-- Pairs of events that are added to a relation by their numbers.
use Rattle.std.proofs.Common.{◌≡◌, ℕ, zero, suc, ◌+◌, ◌<◌, ◌≤◌, ◌⊎◌, List, [], ◌∷◌, length, get_or, refl, sym, ◌∙◌, subst, inl, inr, arith}
use Rattle.std.specs.List.{All}
use Rattle.std.proofs.lemmas.List.Elements.{All-get_or}
use Rattle.std.proofs.lemmas.Bool.{cases_eq}
use Rattle.listings.specs.Lists.{StandsAt}
use Rattle.listings.proofs.Listings.{one_place, place_of}
use Rattle.relations.specs.Events.{EventSet, Has, IsExactlySet, IsCanonicalSet}
use Rattle.relations.specs.Relation.{Relation, In, IsExactly, IsCanonical}
use Rattle.relations.specs.Equality.{reworded_set, reworded}
use Rattle.events.specs.declared.cut.Excerpt.{Excerpt}
use Rattle.events.specs.declared.event.EventId.{EventId}
use Rattle.events.specs.declared.event.EventId.TheVariants.{Initial}
use Rattle.events.specs.declared.named.RelName.TheVariants.{Rf, Co}
use Rattle.events.specs.Cuts.{excerpt_of}
use Rattle.events.specs.Executions.{GraphValue, IsNamed}
use Rattle.events.specs.Named.{event_names, event_count, read_names, IsNumber, NamedRel, ReadsFrom, IsCoherenceBefore, StandsBefore, StandsFrom}
use Rattle.events.specs.Structures.{with_sources}
use Rattle.events.specs.Rows.{ByNumbers, IsBehind, StandsBeforeFrom, IsBeforeAmong, ReadsAmong, IsReadAt}
use Rattle.events.proofs.Numbers.{names_listed, counted}
use Rattle.events.proofs.Shapes.{names_same, reads_same}
use Rattle.events.proofs.Standing.{stands_below, stands_get, stands_or, one_stands}

-- NUMBERS

pub number_below : (g : GraphValue) (i : ℕ) (e : EventId) → IsNumber g i e → i < event_count g
number_below g i e s = omega (arith, stands_below (event_names g) i e s, counted g)

-- an event has one number
pub one_number : (g : GraphValue) (e : EventId) (i j : ℕ) → IsNumber g i e → IsNumber g j e → i ≡ j
one_number g e i j s t =
    one_place (event_names g) i j (Initial 0) (names_listed g).once (stands_below (event_names g) i e s) (stands_below (event_names g) j e t)
    (stands_get (event_names g) i (Initial 0) e s ∙ sym (stands_get (event_names g) j (Initial 0) e t))

-- each number below the count is that of an event
pub of_number : (g : GraphValue) (i : ℕ) → i < event_count g → (e : EventId) × IsNumber g i e
of_number g i l = (get_or (event_names g) i (Initial 0), stands_or (event_names g) i (Initial 0) _ (omega (arith, l, counted g)) refl)

-- an event of the execution has a number
pub has_number : (g : GraphValue) (e : EventId) → IsNamed g.init g.runs e → (i : ℕ) × IsNumber g i e
has_number g e h =
    let p : (i : ℕ) × (i < length (event_names g)) × (get_or (event_names g) i (Initial 0) ≡ e) = place_of (event_names g) (Initial 0) e ((names_listed g).all e h) in
    (p.0, stands_or (event_names g) p.0 (Initial 0) e p.1 p.2)

pub all_at : {X : Type 0} (P : X → Type 0) (xs : List X) (i : ℕ) (x : X) → All P xs → StandsAt xs i x → P x
all_at P xs i x h s = subst P (stands_get xs i x x s) (All-get_or P xs i x (stands_below xs i x s) h)

-- a number fits a set or a relation over the events
pub fits : (g : GraphValue) (e : EventId) (n i : ℕ) → n ≡ event_count g → IsNumber g i e → i < n
fits g e n i h s = omega (arith, h, number_below g i e s)

-- ONE PAIR, OR NONE

pub nothing_more : (n : ℕ) (P : ℕ → ℕ → Type 0) (r : Relation) → r.count ≡ n → IsCanonical r → ((i j : ℕ) → P i j → ⊥) → IsExactly n (λ i j. In r i j ⊎ P i j) r
nothing_more n P r e c f = record {
  count = e;
  only = λ i j m. inl m;
  all = λ i j a b x. elim x [ inl m ↦ m | inr p ↦ absurd (f i j p) ];
  canonical = c;
}

pub no_event_more : (n : ℕ) (P : ℕ → Type 0) (s : EventSet) → s.count ≡ n → IsCanonicalSet s → ((i : ℕ) → P i → ⊥) → IsExactlySet n (λ i. Has s i ⊎ P i) s
no_event_more n P s e c f = record {
  count = e;
  only = λ i m. inl m;
  all = λ i a x. elim x [ inl m ↦ m | inr p ↦ absurd (f i p) ];
  canonical = c;
}

pub pair_more : (n m from to : ℕ) (g : GraphValue) (d e : EventId) (r s : Relation) → m ≡ n → IsNumber g from d → IsNumber g to e →
    IsExactly m (λ a b. In r a b ⊎ ((a ≡ from) × (b ≡ to))) s → IsExactly n (λ i j. In r i j ⊎ (IsNumber g i d × IsNumber g j e)) s
pair_more n m from to g d e r s f a b h =
    let R : ℕ → Type 0 = λ k. IsExactly k (λ a b. In r a b ⊎ ((a ≡ from) × (b ≡ to))) s in
    let P : ℕ → Type 0 = λ i. IsNumber g i d in
    let Q : ℕ → Type 0 = λ j. IsNumber g j e in
    reworded n (λ a b. In r a b ⊎ ((a ≡ from) × (b ≡ to))) (λ i j. In r i j ⊎ (IsNumber g i d × IsNumber g j e)) s
    (λ i j x. elim x [ inl m ↦ inl m | inr y ↦ inr (subst P (sym y.0) a, subst Q (sym y.1) b) ])
    (λ i j k l x. elim x [ inl m ↦ inl m | inr y ↦ inr (one_number g d i from y.0 a, one_number g e j to y.1 b) ])
    (subst R f h)

pub row_more : (n m from : ℕ) (g : GraphValue) (d : EventId) (s : EventSet) (r t : Relation) → m ≡ n → IsNumber g from d →
    IsExactly m (λ a b. In r a b ⊎ ((a ≡ from) × Has s b)) t → IsExactly n (λ i j. In r i j ⊎ (IsNumber g i d × Has s j)) t
row_more n m from g d s r t f a h =
    let R : ℕ → Type 0 = λ k. IsExactly k (λ a b. In r a b ⊎ ((a ≡ from) × Has s b)) t in
    let P : ℕ → Type 0 = λ i. IsNumber g i d in
    reworded n (λ a b. In r a b ⊎ ((a ≡ from) × Has s b)) (λ i j. In r i j ⊎ (IsNumber g i d × Has s j)) t
    (λ i j x. elim x [ inl m ↦ inl m | inr y ↦ inr (subst P (sym y.0) a, y.1) ])
    (λ i j k l x. elim x [ inl m ↦ inl m | inr y ↦ inr (one_number g d i from y.0 a, y.1) ])
    (subst R f h)

pub event_more : (n m from : ℕ) (g : GraphValue) (d : EventId) (s t : EventSet) → m ≡ n → IsNumber g from d →
    IsExactlySet m (λ a. Has s a ⊎ (a ≡ from)) t → IsExactlySet n (λ i. Has s i ⊎ IsNumber g i d) t
event_more n m from g d s t f a h =
    let R : ℕ → Type 0 = λ k. IsExactlySet k (λ a. Has s a ⊎ (a ≡ from)) t in
    let P : ℕ → Type 0 = λ i. IsNumber g i d in
    reworded_set n (λ a. Has s a ⊎ (a ≡ from)) (λ i. Has s i ⊎ IsNumber g i d) t
    (λ i x. elim x [ inl m ↦ inl m | inr y ↦ inr (subst P (sym y) a) ])
    (λ i k x. elim x [ inl m ↦ inl m | inr y ↦ inr (one_number g d i from y a) ])
    (subst R f h)

-- AN ORDER, FROM ITS LAST EVENT ON

pub behind_begun : (n : ℕ) (g : GraphValue) (order : List EventId) (p : ℕ) (s : EventSet) → p ≡ length order → IsExactlySet n (λ i. ⊥) s → IsExactlySet n (IsBehind g order p) s
behind_begun n g order p s e h =
    reworded_set n (λ i. ⊥) (IsBehind g order p) s (λ i x. absurd x)
    (λ i l x. (let z : ⊥ = omega (arith, e, x.2.1, stands_below order x.2.0 x.0 x.2.2) in z)) h

pub order_begun : (n : ℕ) (g : GraphValue) (order : List EventId) (p : ℕ) (r : Relation) → p ≡ length order → r.count ≡ n → IsCanonical r →
    IsExactly n (λ i j. In r i j ⊎ ByNumbers g (StandsBeforeFrom order p) i j) r
order_begun n g order p r e c d =
    nothing_more n (ByNumbers g (StandsBeforeFrom order p)) r c d
    (λ i j x. (let y : StandsBeforeFrom order p x.0 x.1 = x.4 in let z : ⊥ = omega (arith, e, y.1, stands_below order y.0 x.0 y.2) in z))

pub behind_on : (n : ℕ) (g : GraphValue) (order : List EventId) (p q : ℕ) (e : EventId) (s t : EventSet) → q ≡ p + 1 → StandsAt order p e → IsExactlySet n (IsBehind g order q) s →
    IsExactlySet n (λ j. Has s j ⊎ IsNumber g j e) t → IsExactlySet n (IsBehind g order p) t
behind_on n g order p q e s t f at h k = record {
  count = k.count;
  only = λ i m. elim (k.only i m) [
    | inl x ↦ (let y : IsBehind g order q i = h.only i x in (y.0, y.1, (y.2.0, omega (arith, f, y.2.1), y.2.2)))
    | inr x ↦ (e, x, (p, omega arith, at))
  ];
  all = λ i a x. elim (cases_eq x.2.0 p) [
    | inl y ↦ (let P : ℕ → Type 0 = λ b. StandsAt order b x.0 in
        let Q : EventId → Type 0 = λ e. IsNumber g i e in
        k.all i a (inr (subst Q (one_stands order p x.0 e (subst P y x.2.2) at) x.1)))
    | inr d ↦ k.all i a (inl (h.all i a (x.0, x.1, (x.2.0, omega (arith, f, d, x.2.1), x.2.2))))
  ];
  canonical = k.canonical;
}

pub order_on : (n : ℕ) (g : GraphValue) (order : List EventId) (p q : ℕ) (d : EventId) (s : EventSet) (o r t : Relation) → q ≡ p + 1 → StandsAt order p d →
    IsExactlySet n (IsBehind g order q) s → IsExactly n (λ i j. In o i j ⊎ ByNumbers g (StandsBeforeFrom order q) i j) r →
    IsExactly n (λ i j. In r i j ⊎ (IsNumber g i d × Has s j)) t → IsExactly n (λ i j. In o i j ⊎ ByNumbers g (StandsBeforeFrom order p) i j) t
order_on n g order p q d s o r t f at h k l = record {
  count = l.count;
  only = λ i j m. elim (l.only i j m) [
    | inl x ↦ elim (k.only i j x) [
      | inl y ↦ inl y
      | inr y ↦ (let z : StandsBeforeFrom order q y.0 y.1 = y.4 in inr (y.0, y.1, y.2, y.3, (z.0, omega (arith, f, z.1), z.2, z.3)))
    ]
    | inr x ↦ (let y : IsBehind g order q j = h.only j x.1 in
        let z : StandsFrom order (p + 1) y.0 = (y.2.0, omega (arith, f, y.2.1), y.2.2) in
        inr (d, y.0, x.0, y.1, (p, omega arith, at, z)))
  ];
  all = λ i j a b x. elim x [
    | inl y ↦ l.all i j a b (inl (k.all i j a b (inl y)))
    | inr y ↦ (let z : StandsBeforeFrom order p y.0 y.1 = y.4 in
        elim (cases_eq z.0 p) [
          | inl e ↦ (let P : ℕ → Type 0 = λ b. StandsAt order b y.0 in
              let Q : EventId → Type 0 = λ e. IsNumber g i e in
              let u : StandsFrom order (z.0 + 1) y.1 = z.3 in
              let v : StandsFrom order q y.1 = (u.0, omega (arith, f, e, u.1), u.2) in
              l.all i j a b (inr (subst Q (one_stands order p y.0 d (subst P e z.2) at) y.2, h.all j b (y.1, y.3, v))))
          | inr e ↦ l.all i j a b (inl (k.all i j a b (inr (y.0, y.1, y.2, y.3, (z.0, omega (arith, f, e, z.1), z.2, z.3)))))
        ])
  ];
  canonical = l.canonical;
}

pub order_done : (n : ℕ) (g : GraphValue) (order : List EventId) (p : ℕ) (o r : Relation) → p ≡ 0 → IsExactly n (λ i j. In o i j ⊎ ByNumbers g (StandsBeforeFrom order p) i j) r →
    IsExactly n (λ i j. In o i j ⊎ ByNumbers g (StandsBefore order) i j) r
order_done n g order p o r e h =
    reworded n (λ i j. In o i j ⊎ ByNumbers g (StandsBeforeFrom order p) i j) (λ i j. In o i j ⊎ ByNumbers g (StandsBefore order) i j) r
    (λ i j x. elim x [
      | inl y ↦ inl y
      | inr y ↦ (let z : StandsBeforeFrom order p y.0 y.1 = y.4 in inr (y.0, y.1, y.2, y.3, (z.0, z.2, z.3)))
    ])
    (λ i j a b x. elim x [
      | inl y ↦ inl y
      | inr y ↦ (let z : StandsBefore order y.0 y.1 = y.4 in inr (y.0, y.1, y.2, y.3, (z.0, omega (arith, e), z.1, z.2)))
    ]) h

-- ALL ORDERS, ALL READS

pub by_step : (n : ℕ) (g : GraphValue) (P Q R : EventId → EventId → Type 0) (r t : Relation) → ((d e : EventId) → P d e → R d e) → ((d e : EventId) → Q d e → R d e) →
    ((d e : EventId) → R d e → P d e ⊎ Q d e) → IsExactly n (ByNumbers g P) r → IsExactly n (λ i j. In r i j ⊎ ByNumbers g Q i j) t → IsExactly n (ByNumbers g R) t
by_step n g P Q R r t f k m h l = record {
  count = l.count;
  only = λ i j x. elim (l.only i j x) [
    | inl y ↦ (let z : ByNumbers g P i j = h.only i j y in (z.0, z.1, z.2, z.3, f z.0 z.1 z.4))
    | inr z ↦ (z.0, z.1, z.2, z.3, k z.0 z.1 z.4)
  ];
  all = λ i j a b z. l.all i j a b (elim (m z.0 z.1 z.4) [
    | inl x ↦ inl (h.all i j a b (z.0, z.1, z.2, z.3, x))
    | inr x ↦ inr (z.0, z.1, z.2, z.3, x)
  ]);
  canonical = l.canonical;
}

pub orders_begun : (n : ℕ) (g : GraphValue) (r : Relation) → IsExactly n (λ i j. ⊥) r → IsExactly n (ByNumbers g (IsBeforeAmong g 0)) r
orders_begun n g r h =
    reworded n (λ i j. ⊥) (ByNumbers g (IsBeforeAmong g 0)) r (λ i j x. absurd x)
    (λ i j a b x. (let y : IsBeforeAmong g 0 x.0 x.1 = x.4 in let z : ⊥ = omega (arith, y.2) in z)) h

pub orders_on : (n : ℕ) (g : GraphValue) (x : ℕ) (order : List EventId) (r t : Relation) → StandsAt g.co x order → IsExactly n (ByNumbers g (IsBeforeAmong g x)) r →
    IsExactly n (λ i j. In r i j ⊎ ByNumbers g (StandsBefore order) i j) t → IsExactly n (ByNumbers g (IsBeforeAmong g (x + 1))) t
orders_on n g x order r t at h k =
    by_step n g (IsBeforeAmong g x) (StandsBefore order) (IsBeforeAmong g (x + 1)) r t
    (λ d e y. (y.0, y.1, omega (arith, y.2), y.3, y.4))
    (λ d e y. (x, order, omega arith, at, y))
    (λ d e y. elim (cases_eq y.0 x) [
      | inl f ↦ (let P : ℕ → Type 0 = λ x. StandsAt g.co x y.1 in
          let Q : List EventId → Type 0 = λ o. StandsBefore o d e in inr (subst Q (one_stands g.co x y.1 order (subst P f y.3) at) y.4))
      | inr f ↦ inl (y.0, y.1, omega (arith, f, y.2), y.3, y.4)
    ]) h k

pub orders_done : (n : ℕ) (g : GraphValue) (x : ℕ) (r : Relation) → length g.co ≤ x → IsExactly n (ByNumbers g (IsBeforeAmong g x)) r → IsExactly n (NamedRel g Co) r
unfolding NamedRel
orders_done n g x r l h =
    reworded n (ByNumbers g (IsBeforeAmong g x)) (NamedRel g Co) r
    (λ i j y. (let z : IsBeforeAmong g x y.0 y.1 = y.4 in (y.0, y.1, y.2, y.3, (z.0, z.1, z.3, z.4))))
    (λ i j a b y. (y.0, y.1, y.2, y.3, (y.4.0, y.4.1, omega (arith, l, stands_below g.co y.4.0 y.4.1 y.4.2), y.4.2, y.4.3))) h

only_order : (order : List EventId) (x : ℕ) (o : List EventId) (d e : EventId) → StandsAt (order ∷ []) x o → StandsBefore o d e → StandsBefore order d e
only_order order zero o d e s b = (let P : List EventId → Type 0 = λ z. StandsBefore z d e in subst P s b)
only_order order (suc x) o d e s b = absurd s

-- the order of an excerpt
pub one_order : (n : ℕ) (g : GraphValue) (x : Excerpt) (r t : Relation) → IsExactly n (λ i j. ⊥) r → IsExactly n (λ i j. In r i j ⊎ ByNumbers g (StandsBefore x.order.now) i j) t → IsExactly n (NamedRel (excerpt_of g x) Co) t
unfolding NamedRel event_names
one_order n g x r t h k =
    reworded n (λ i j. In r i j ⊎ ByNumbers g (StandsBefore x.order.now) i j) (NamedRel (excerpt_of g x) Co) t
    (λ i j y. elim y [
      | inl z ↦ absurd (h.only i j z)
      | inr z ↦ (z.0, z.1, z.2, z.3, (0, x.order.now, refl, z.4))
    ])
    (λ i j a b y. (let z : IsCoherenceBefore (excerpt_of g x) y.0 y.1 = y.4 in inr (y.0, y.1, y.2, y.3, only_order x.order.now z.0 z.1 y.0 y.1 z.2 z.3))) k

pub reads_begun : (n : ℕ) (g : GraphValue) (rf : List EventId) (r : Relation) → IsExactly n (λ i j. ⊥) r → IsExactly n (ByNumbers g (ReadsAmong g rf 0)) r
reads_begun n g rf r h =
    reworded n (λ i j. ⊥) (ByNumbers g (ReadsAmong g rf 0)) r (λ i j x. absurd x)
    (λ i j a b x. (let y : ReadsAmong g rf 0 x.0 x.1 = x.4 in let z : ⊥ = omega (arith, y.1) in z)) h

pub reads_on : (n : ℕ) (g : GraphValue) (rf : List EventId) (m : ℕ) (r t : Relation) → IsExactly n (ByNumbers g (ReadsAmong g rf m)) r →
    IsExactly n (λ i j. In r i j ⊎ ByNumbers g (IsReadAt g rf m) i j) t → IsExactly n (ByNumbers g (ReadsAmong g rf (m + 1))) t
reads_on n g rf m r t h k =
    by_step n g (ReadsAmong g rf m) (IsReadAt g rf m) (ReadsAmong g rf (m + 1)) r t
    (λ d e y. (y.0, omega (arith, y.1), y.2, y.3))
    (λ d e y. (m, omega arith, y.0, y.1))
    (λ d e y. elim (cases_eq y.0 m) [
      | inl f ↦ (let P : ℕ → Type 0 = λ m. IsReadAt g rf m d e in inr (subst P f (y.2, y.3)))
      | inr f ↦ inl (y.0, omega (arith, f, y.1), y.2, y.3)
    ]) h k

pub reads_done : (n : ℕ) (g : GraphValue) (rf : List EventId) (m : ℕ) (r : Relation) → length (read_names g) ≤ m → IsExactly n (ByNumbers g (ReadsAmong g rf m)) r → IsExactly n (NamedRel (with_sources g rf) Rf) r
unfolding NamedRel
reads_done n g rf m r l h =
    let x : GraphValue = with_sources g rf in
    let names : event_names g ≡ event_names x = names_same g x refl in
    let reads : read_names g ≡ read_names x = reads_same g x refl in
    reworded n (ByNumbers g (ReadsAmong g rf m)) (NamedRel x Rf) r
    (λ i j y. (let z : ReadsAmong g rf m y.0 y.1 = y.4 in
    let P : List EventId → Type 0 = λ ds. StandsAt ds i y.0 in
    let Q : List EventId → Type 0 = λ ds. StandsAt ds j y.1 in
    let R : List EventId → Type 0 = λ ds. StandsAt ds z.0 y.1 in
    (y.0, y.1, subst P names y.2, subst Q names y.3, (z.0, subst R reads z.2, z.3))))
    (λ i j a b y. (let z : ReadsFrom x y.0 y.1 = y.4 in
    let P : List EventId → Type 0 = λ ds. StandsAt ds i y.0 in
    let Q : List EventId → Type 0 = λ ds. StandsAt ds j y.1 in
    let R : List EventId → Type 0 = λ ds. StandsAt ds z.0 y.1 in
    let at : StandsAt (read_names g) z.0 y.1 = subst R (sym reads) z.1 in
    (y.0, y.1, subst P (sym names) y.2, subst Q (sym names) y.3, (z.0, omega (arith, l, stands_below (read_names g) z.0 y.1 at), at, z.2)))) h

-- the pair of two events is that of what stands at place m
pub read_more : (n : ℕ) (g : GraphValue) (rf : List EventId) (m : ℕ) (w r : EventId) (o t : Relation) → StandsAt (read_names g) m r → StandsAt rf m w →
    IsExactly n (λ i j. In o i j ⊎ (IsNumber g i w × IsNumber g j r)) t → IsExactly n (λ i j. In o i j ⊎ ByNumbers g (IsReadAt g rf m) i j) t
read_more n g rf m w r o t a b h =
    reworded n (λ i j. In o i j ⊎ (IsNumber g i w × IsNumber g j r)) (λ i j. In o i j ⊎ ByNumbers g (IsReadAt g rf m) i j) t
    (λ i j x. elim x [ inl y ↦ inl y | inr y ↦ inr (w, r, y.0, y.1, (a, b)) ])
    (λ i j k l x. elim x [
      | inl y ↦ inl y
      | inr y ↦ (let P : EventId → Type 0 = λ e. IsNumber g i e in
          let Q : EventId → Type 0 = λ e. IsNumber g j e in
          inr (subst P (one_stands rf m y.0 w y.4.1 b) y.2, subst Q (one_stands (read_names g) m y.1 r y.4.0 a) y.3))
    ]) h

pub no_read_more : (g : GraphValue) (rf : List EventId) (m : ℕ) (r : Relation) → length rf ≤ m → r.count ≡ event_count g → IsCanonical r →
    IsExactly (event_count g) (λ i j. In r i j ⊎ ByNumbers g (IsReadAt g rf m) i j) r
no_read_more g rf m r l c d =
    nothing_more (event_count g) (ByNumbers g (IsReadAt g rf m)) r c d
    (λ i j x. (let z : ⊥ = omega (arith, l, stands_below rf m x.0 x.4.1) in z))
