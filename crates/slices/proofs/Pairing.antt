-- Pairs of writes that stand so in orders, and in what is known of these.
use Rattle.std.proofs.Common.{rules, ◌≡◌, ◌==◌, drop, length, get_or, ℕ, zero, suc, ◌+◌, ◌<◌, ◌≤◌, List, [], ◌∷◌, ◌++◌, filter, not, nat_lt, Bool, true, false, if◌then◌else◌, refl, sym, ◌∙◌, ap, subst, inl, inr, arith}
use Rattle.events.specs.contracts.event.EventIdPartialEq.TheImpl.{ghosts as name_equality}
use Rattle.std.specs.List.{All, list_any}
use Rattle.std.specs.Bool.{Decides}
use Rattle.std.proofs.lemmas.Bool.{and_parts, or_parts, or_from, eq-eqb, eqb-true, ltb-true, false≢true}
use Rattle.std.proofs.lemmas.List.Elements.{All-head, All-tail}
use Rattle.listings.specs.Lists.{StandsAt}
use Rattle.events.specs.declared.event.EventId.{EventId}
use Rattle.events.specs.declared.event.EventId.TheVariants.{Initial, Own}
use Rattle.events.specs.Cuts.{same_event, is_among, placed, first_before, known_of, known_from}
use Rattle.events.specs.Extends.{IsPart, IsPartOfOne}

-- one event that stands in a list is a part of it
one_part : (ys : List EventId) (i : ℕ) (b : EventId) → StandsAt ys i b → IsPart (b ∷ []) ys
one_part [] i b s = absurd s
one_part (y ∷ ys) zero b s = inl (s, tt)
one_part (y ∷ ys) (suc i) b s = inr (one_part ys i b s)

-- two events of which the first stands at an earlier place
pub two_part : (ys : List EventId) (k i : ℕ) (a b : EventId) → StandsAt ys k a → StandsAt ys i b → k < i → IsPart (a ∷ b ∷ []) ys
two_part [] k i a b s t l = absurd s
two_part (y ∷ ys) zero zero a b s t l = absurd (omega (arith, l))
two_part (y ∷ ys) zero (suc i) a b s t l = inl (s, one_part ys i b t)
two_part (y ∷ ys) (suc k) zero a b s t l = absurd (omega (arith, l))
two_part (y ∷ ys) (suc k) (suc i) a b s t l = inr (two_part ys k i a b s t (omega (arith, l)))

-- a part of a part is one of the whole
pub part_through : (xs ys zs : List EventId) → IsPart xs ys → IsPart ys zs → IsPart xs zs
part_through [] ys zs p q = tt
part_through (x ∷ xs) [] zs p q = absurd p
part_through (x ∷ xs) (y ∷ ys) [] p q = absurd q
part_through (x ∷ xs) (y ∷ ys) (z ∷ zs) p q = elim q [
  | inl a ↦ elim p [
    | inl b ↦ inl (b.0 ∙ a.0, part_through xs ys zs b.1 a.1)
    | inr b ↦ inr (part_through (x ∷ xs) ys zs b a.1)
  ]
  | inr a ↦ inr (part_through (x ∷ xs) (y ∷ ys) zs p a)
]

-- where lists stand beside others
stands_front : (xs ys : List (List EventId)) (k : ℕ) (o : List EventId) → StandsAt xs k o → StandsAt (xs ++ ys) k o
stands_front [] ys k o s = absurd s
stands_front (x ∷ xs) ys zero o s = s
stands_front (x ∷ xs) ys (suc k) o s = stands_front xs ys k o s

stands_behind : (xs ys : List (List EventId)) (k : ℕ) (o : List EventId) → StandsAt ys k o → (m : ℕ) × StandsAt (xs ++ ys) m o
stands_behind [] ys k o s = (k, s)
stands_behind (x ∷ xs) ys k o s = let r = stands_behind xs ys k o s in (suc r.0, r.1)

one_front : (xs ys : List (List EventId)) (p : List EventId) → IsPartOfOne xs p → IsPartOfOne (xs ++ ys) p
one_front xs ys p h = (h.0, h.1, stands_front xs ys h.0 h.1 h.2, h.3)

one_behind : (xs ys : List (List EventId)) (p : List EventId) → IsPartOfOne ys p → IsPartOfOne (xs ++ ys) p
one_behind xs ys p h = let r = stands_behind xs ys h.0 h.1 h.2 in (r.0, h.1, r.1, h.3)

-- what is kept of a list has what is kept of its part
kept_one : (f : EventId → Bool) (b : EventId) (ys : List EventId) → f b ≡ true → IsPart (b ∷ []) ys → IsPart (b ∷ []) (filter f ys)
kept_one f b [] e p = absurd p
kept_one f b (y ∷ ys) e p = go (f y) refl p (kept_one f b ys e) where
  go : (c : Bool) → f y ≡ c → IsPart (b ∷ []) (y ∷ ys) → (IsPart (b ∷ []) ys → IsPart (b ∷ []) (filter f ys)) → IsPart (b ∷ []) (if c then y ∷ filter f ys else filter f ys)
  go true s p r = elim p [ inl a ↦ inl (a.0, tt) | inr a ↦ inr (r a) ]
  go false s p r = elim p [ inl a ↦ absurd (let n : true ≡ false = sym e ∙ ap f a.0 ∙ s in cc) | inr a ↦ r a ]

kept_two : (f : EventId → Bool) (a b : EventId) (ys : List EventId) → f a ≡ true → f b ≡ true → IsPart (a ∷ b ∷ []) ys → IsPart (a ∷ b ∷ []) (filter f ys)
kept_two f a b [] d e p = absurd p
kept_two f a b (y ∷ ys) d e p = go (f y) refl p (kept_two f a b ys d e) where
  go : (c : Bool) → f y ≡ c → IsPart (a ∷ b ∷ []) (y ∷ ys) → (IsPart (a ∷ b ∷ []) ys → IsPart (a ∷ b ∷ []) (filter f ys)) → IsPart (a ∷ b ∷ []) (if c then y ∷ filter f ys else filter f ys)
  go true s p r = elim p [ inl h ↦ inl (h.0, kept_one f b ys e h.1) | inr h ↦ inr (r h) ]
  go false s p r = elim p [ inl h ↦ absurd (let n : true ≡ false = sym d ∙ ap f h.0 ∙ s in cc) | inr h ↦ r h ]

-- what is known of an order of a location behind the free ones, or of the first of these
order_known : (free : ℕ) (un : List EventId) (x : ℕ) (o p : List EventId) → free < x → IsPart p o → IsPartOfOne (known_of free un x o) p
order_known free un x o p l h = go (nat_lt x free) refl (x == free) refl where
  go : (c : Bool) → nat_lt x free ≡ c → (d : Bool) → (x == free) ≡ d →
      IsPartOfOne (if c then first_before o (drop 1 o) else (if d then placed un o ∷ first_before o un else o ∷ [])) p
  go true e d f = let b : x < free = ltb-true x free e in absurd (omega (arith, b, l))
  go false e true f = let q : x ≡ free = eqb-true x free f in absurd (omega (arith, q, l))
  go false e false f = (0, o, refl, h)

order_placed : (free : ℕ) (un : List EventId) (x : ℕ) (o : List EventId) (a b : EventId) → x ≡ free → is_among un a ≡ false → is_among un b ≡ false → IsPart (a ∷ b ∷ []) o → IsPartOfOne (known_of free un x o) (a ∷ b ∷ [])
order_placed free un x o a b q m n h = go (nat_lt x free) refl (x == free) refl where
  go : (c : Bool) → nat_lt x free ≡ c → (d : Bool) → (x == free) ≡ d →
      IsPartOfOne (if c then first_before o (drop 1 o) else (if d then placed un o ∷ first_before o un else o ∷ [])) (a ∷ b ∷ [])
  go true e d f = let b : x < free = ltb-true x free e in absurd (omega (arith, b, q))
  go false e true f = (0, placed un o, refl, kept_two (λ w. not (is_among un w)) a b o (ap not m) (ap not n) h)
  go false e false f = absurd (false≢true (sym f ∙ eq-eqb x free q))

pub known_behind : (free : ℕ) (un : List EventId) (x k : ℕ) (orders : List (List EventId)) (o p : List EventId) → StandsAt orders k o → free < x + k → IsPart p o → IsPartOfOne (known_from free un x orders) p
known_behind free un x k [] o p s l h = absurd s
known_behind free un x zero (y ∷ ys) o p s l h =
    let P : List EventId → Type 0 = λ z. IsPart p z in
    one_front (known_of free un x y) (known_from free un (suc x) ys) p (order_known free un x y p (omega (arith, l)) (subst P s h))
known_behind free un x (suc k) (y ∷ ys) o p s l h = one_behind (known_of free un x y) (known_from free un (suc x) ys) p (known_behind free un (suc x) k ys o p s (omega (arith, l)) h)

pub known_here : (free : ℕ) (un : List EventId) (x k : ℕ) (orders : List (List EventId)) (o : List EventId) (a b : EventId) → StandsAt orders k o → x + k ≡ free → is_among un a ≡ false → is_among un b ≡ false → IsPart (a ∷ b ∷ []) o →
    IsPartOfOne (known_from free un x orders) (a ∷ b ∷ [])
known_here free un x k [] o a b s l m n h = absurd s
known_here free un x zero (y ∷ ys) o a b s l m n h =
    let P : List EventId → Type 0 = λ z. IsPart (a ∷ b ∷ []) z in
    one_front (known_of free un x y) (known_from free un (suc x) ys) (a ∷ b ∷ []) (order_placed free un x y a b (omega (arith, l)) m n (subst P s h))
known_here free un x (suc k) (y ∷ ys) o a b s l m n h =
    one_behind (known_of free un x y) (known_from free un (suc x) ys) (a ∷ b ∷ []) (known_here free un (suc x) k ys o a b s (omega (arith, l)) m n h)

-- AMONG

same_is : (d e : EventId) → same_event d e ≡ true → d ≡ e
same_is (Initial x) (Initial y) h = ap Initial (eqb-true x y h)
same_is (Initial x) (Own l q) h = absurd (false≢true h)
same_is (Own k p) (Initial y) h = absurd (false≢true h)
same_is (Own k p) (Own l q) h =
    let b = and_parts (k == l) (p == q) h in
    ap (λ i. Own i p) (eqb-true k l b.0) ∙ ap (λ i. Own l i) (eqb-true p q b.1)

-- what no test of equality finds isn't among them
pub not_among : (E : EventId → EventId → Bool) → ((e : EventId) → E e e ≡ true) → (un : List EventId) (a : EventId) → list_any (λ y. E y a) un ≡ false → is_among un a ≡ false
not_among E r [] a h = refl
not_among E r (y ∷ ys) a h =
    let b = or_parts (E y a) (list_any (λ z. E z a) ys) h in
    or_from (same_event a y) (is_among ys a) (go (same_event a y) refl b.0) (not_among E r ys a b.1) where
      go : (c : Bool) → same_event a y ≡ c → E y a ≡ false → same_event a y ≡ false
      go false e n = e
      go true e n = let P : EventId → Type 0 = λ z. E z a ≡ true in absurd (false≢true (sym n ∙ subst P (same_is a y e) (r a)))

-- WHAT IS PASSED OVER

-- where lists of lists have parts of one, so do those that they are parts of
pub part_of_one : (os : List (List EventId)) (orders : List (List EventId)) (p : List EventId) → All (IsPartOfOne orders) os → (k : ℕ) (o : List EventId) → StandsAt os k o → IsPart p o → (j : ℕ) × (q : List EventId) × StandsAt orders j q × IsPart p q
part_of_one [] orders p all k o s h = absurd s
part_of_one (z ∷ zs) orders p all zero o s h =
    let one = All-head (IsPartOfOne orders) z zs all in
    let P : List EventId → Type 0 = λ y. IsPart p y in
    (one.0, one.1, one.2, part_through p z one.1 (subst P s h) one.3)
part_of_one (z ∷ zs) orders p all (suc k) o s h = part_of_one zs orders p (All-tail (IsPartOfOne orders) z zs all) k o s h

-- where a test of equality holds at a place, the event stands there
pub event_exact : (d e : EventId) → Decides (name_equality.eq d e) (d ≡ e)
event_exact d e = search rules

pub event_found : (order : List EventId) (i : ℕ) (d b : EventId) → i < length order → name_equality.eq (get_or order i d) b ≡ true → StandsAt order i b
event_found [] i d b l e = absurd (omega (arith, l))
event_found (y ∷ ys) zero d b l e = sym ((event_exact y b).0 e)
event_found (y ∷ ys) (suc i) d b l e = event_found ys i d b (omega (arith, l)) e

pub event_there : (order : List EventId) (i : ℕ) (d : EventId) → i < length order → StandsAt order i (get_or order i d)
event_there [] i d l = absurd (omega (arith, l))
event_there (y ∷ ys) zero d l = refl
event_there (y ∷ ys) (suc i) d l = event_there ys i d (omega (arith, l))

-- what is read at a place of events stands there
pub event_now : (events xs : List EventId) (i : ℕ) (w : EventId) → xs ≡ events → nat_lt i (length xs) ≡ true → w ≡ get_or xs i w → StandsAt events i w
event_now events xs i w same l e =
    let P : List EventId → Type 0 = λ z. StandsAt z i w in
    let Q : EventId → Type 0 = λ v. StandsAt xs i v in
    subst P same (subst Q (sym e) (event_there xs i w (ltb-true i (length xs) l)))

order_there : (orders : List (List EventId)) (i : ℕ) (d o : List EventId) → i < length orders → o ≡ get_or orders i d → StandsAt orders i o
order_there [] i d o l e = absurd (omega (arith, l))
order_there (y ∷ ys) zero d o l e = e
order_there (y ∷ ys) (suc i) d o l e = order_there ys i d o (omega (arith, l)) e

-- what is read at a place of the orders stands there
pub order_read : (orders xs : List (List EventId)) (i : ℕ) (o : List EventId) → xs ≡ orders → i < length xs → o ≡ get_or xs i o → StandsAt orders i o
order_read orders xs i o same l e = let P : List (List EventId) → Type 0 = λ z. StandsAt z i o in subst P same (order_there xs i o o l e)

pub order_now : (orders xs : List (List EventId)) (i : ℕ) (o : List EventId) → xs ≡ orders → nat_lt i (length xs) ≡ true → o ≡ get_or xs i o → StandsAt orders i o
order_now orders xs i o same l e = order_read orders xs i o same (ltb-true i (length xs) l) e

pub event_itself : (e : EventId) → name_equality.eq e e ≡ true
event_itself e = (event_exact e e).1 refl
