-- What `observed` makes is the list of observed places, and there is one such list.
use Rattle.std.proofs.Common.{◌≡◌, ℕ, zero, suc, ◌<◌, inl, inr, List, [], ◌∷◌, ◌++◌, length, get_or, sym, subst, arith}
use Rattle.std.specs.List.{Contains, dedup}
use Rattle.std.specs.List.Retain.{IsFiltered, DiffersFromLast}
use Rattle.std.specs.List.Sorted.{IsPermutation, IsSorted, IsStrictlySortedBy}
use Rattle.std.proofs.lemmas.List.Filters.{dedup_is}
use Rattle.std.proofs.lemmas.List.Kept.{IsStrictlySortedBy-dedup, Contains-dedup, Contains-from_dedup}
use Rattle.std.proofs.lemmas.List.Sorted.{Contains-permutation, IsPermutation-sym}
use Rattle.listings.specs.Lists.{IsIn}
use Rattle.listings.proofs.Listings.{in_append, in_left, in_right}
use Rattle.conditions.specs.Conditions.{Formula, truth, falsehood, equals, negation, conjunction, disjunction, implication, Condition}
use Rattle.conditions.specs.States.{Mentions, mentioned, AreObserved}
use Rattle.conditions.specs.declared.place.Place.{Place}
use Rattle.conditions.specs.contracts.place.PlaceOrd.TheImpl.{ghosts as place_order}
use Rattle.conditions.specs.Equality.{same_place}
use Rattle.conditions.specs.Exact.{place_exact, place_equivalence}
use Rattle.conditions.proofs.Places.{place_total, place_ties}
use Rattle.conditions.proofs.InOrder.{once_strict, in_order_strict, strict_in_order, same_strict}

contains : {X : Type 0} (x : X) (xs : List X) → IsIn x xs → Contains xs x
contains x [] h = absurd h
contains x (y ∷ ys) h = elim h [
  | inl e ↦ (0, omega arith, sym e)
  | inr m ↦ let r = contains x ys m in (suc r.0, omega (arith, r.1), r.2)
]

in_at : {X : Type 0} (x : X) (xs : List X) (k : ℕ) → k < length xs → get_or xs k x ≡ x → IsIn x xs
in_at x [] k l e = absurd (omega (arith, l))
in_at x (y ∷ ys) zero l e = inl (sym e)
in_at x (y ∷ ys) (suc k) l e = inr (in_at x ys k (omega (arith, l)) e)

contained : {X : Type 0} (x : X) (xs : List X) → Contains xs x → IsIn x xs
contained x xs c = in_at x xs c.0 c.1 c.2

-- the proposition speaks of the places that stand in it
pub mentions : (f : Formula) (p : Place) → IsIn p (mentioned f) → Mentions f p
mentions truth p h = h
mentions falsehood p h = h
mentions (equals place value) p h = elim h [ inl e ↦ e | inr m ↦ absurd m ]
mentions (negation a) p h = mentions a p h
mentions (conjunction a b) p h = elim (in_append (mentioned a) (mentioned b) p h) [ inl m ↦ inl (mentions a p m) | inr m ↦ inr (mentions b p m) ]
mentions (disjunction a b) p h = elim (in_append (mentioned a) (mentioned b) p h) [ inl m ↦ inl (mentions a p m) | inr m ↦ inr (mentions b p m) ]
mentions (implication a b) p h = elim (in_append (mentioned a) (mentioned b) p h) [ inl m ↦ inl (mentions a p m) | inr m ↦ inr (mentions b p m) ]

pub is_mentioned : (f : Formula) (p : Place) → Mentions f p → IsIn p (mentioned f)
is_mentioned truth p h = h
is_mentioned falsehood p h = h
is_mentioned (equals place value) p h = inl h
is_mentioned (negation a) p h = is_mentioned a p h
is_mentioned (conjunction a b) p h = elim h [ inl m ↦ in_left (mentioned a) (mentioned b) p (is_mentioned a p m) | inr m ↦ in_right (mentioned a) (mentioned b) p (is_mentioned b p m) ]
is_mentioned (disjunction a b) p h = elim h [ inl m ↦ in_left (mentioned a) (mentioned b) p (is_mentioned a p m) | inr m ↦ in_right (mentioned a) (mentioned b) p (is_mentioned b p m) ]
is_mentioned (implication a b) p h = elim h [ inl m ↦ in_left (mentioned a) (mentioned b) p (is_mentioned a p m) | inr m ↦ in_right (mentioned a) (mentioned b) p (is_mentioned b p m) ]

-- Places that are sorted and then rid of repeats are observed.
pub observed_places : (condition : Condition) (listed found sorted places : List Place) → found ≡ mentioned condition.formula ++ listed → IsPermutation found sorted → IsSorted place_order.cmp sorted → IsFiltered (DiffersFromLast same_place) [] sorted places → AreObserved condition listed places
observed_places condition listed found sorted places is moved up kept =
    let same : places ≡ dedup same_place sorted = dedup_is same_place sorted places kept in
    let strict : IsStrictlySortedBy place_order.cmp places = (let P : List Place → Type 0 = λ xs. IsStrictlySortedBy place_order.cmp xs in subst P (sym same) (IsStrictlySortedBy-dedup place_total place_ties sorted up)) in
    record {
      members = record {
        once = once_strict places strict;
        only = λ p h.
            (let P : List Place → Type 0 = λ xs. IsIn p xs in
            let there = Contains-from_dedup same_place sorted p (contains p _ (subst P same h)) in
            let before = contained p found (Contains-permutation sorted found p (IsPermutation-sym _ _ moved) there) in
            elim (in_append (mentioned condition.formula) listed p (subst P is before)) [ inl m ↦ inl (mentions condition.formula p m) | inr m ↦ inr m ]);
        all = λ p h.
            (let P : List Place → Type 0 = λ xs. IsIn p xs in
            let before : IsIn p (mentioned condition.formula ++ listed) = (elim h [ inl m ↦ in_left _ listed p (is_mentioned condition.formula p m) | inr m ↦ in_right (mentioned condition.formula) listed p m ]) in
            let there = Contains-permutation found sorted p moved (contains p found (subst P (sym is) before)) in
            subst P (sym same) (contained p _ (Contains-dedup place_equivalence (λ a b. (place_exact a b).0) sorted p there)));
      };
      order = in_order_strict places strict;
    }

pub same_observed : (condition : Condition) (listed xs ys : List Place) → AreObserved condition listed xs → AreObserved condition listed ys → xs ≡ ys
same_observed condition listed xs ys a b =
    same_strict xs ys (strict_in_order xs a.order) (strict_in_order ys b.order)
    (λ p m. b.members.all p (a.members.only p m))
    (λ p m. a.members.all p (b.members.only p m))
