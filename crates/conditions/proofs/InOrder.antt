-- Places in order stand once each, and two lists of the same places in order are equal.
use Rattle.std.proofs.Common.{◌≡◌, ◌∙◌, ◌⊎◌, inl, inr, List, [], ◌∷◌, Less, refl, sym, ap, subst}
use Rattle.std.specs.List.{AllByRecursion}
use Rattle.std.specs.List.Sorted.{IsStrictlySortedBy}
use Rattle.std.proofs.lemmas.Cmp.{tied_itself}
use Rattle.listings.specs.Lists.{IsIn, NoRepeats}
use Rattle.conditions.specs.States.{AreInOrder}
use Rattle.conditions.specs.declared.place.Place.{Place}
use Rattle.conditions.specs.contracts.place.PlaceOrd.TheImpl.{ghosts as place_order}
use Rattle.conditions.proofs.Places.{place_total, precedes, is_less}

-- what is above all of xs is none of them
above_all : (x y : Place) (xs : List Place) → AllByRecursion (λ q. place_order.cmp x q ≡ Less) xs → IsIn y xs → place_order.cmp x y ≡ Less
above_all x y [] a h = absurd h
above_all x y (q ∷ xs) a h = elim h [ inl e ↦ ap (λ r. place_order.cmp x r) e ∙ a.0 | inr m ↦ above_all x y xs a.1 m ]

not_below_itself : (x : Place) → ¬ (place_order.cmp x x ≡ Less)
not_below_itself x h = let t = tied_itself place_total x in cc

pub once_strict : (xs : List Place) → IsStrictlySortedBy place_order.cmp xs → NoRepeats xs
unfolding IsStrictlySortedBy
once_strict [] s = tt
once_strict (x ∷ xs) s = (λ h. not_below_itself x (above_all x x xs s.0 h), once_strict xs s.1)

pub in_order_strict : (xs : List Place) → IsStrictlySortedBy place_order.cmp xs → AreInOrder xs
unfolding IsStrictlySortedBy
in_order_strict [] s = tt
in_order_strict (x ∷ []) s = tt
in_order_strict (x ∷ y ∷ xs) s = (precedes x y s.0.0, in_order_strict (y ∷ xs) s.1)

-- places in order are strictly sorted
all_above : (x : Place) (y : Place) (xs : List Place) → place_order.cmp x y ≡ Less → AllByRecursion (λ q. place_order.cmp y q ≡ Less) xs → AllByRecursion (λ q. place_order.cmp x q ≡ Less) xs
all_above x y [] l a = a
all_above x y (q ∷ xs) l a = (place_total.trans x y q l a.0, all_above x y xs l a.1)

pub strict_in_order : (xs : List Place) → AreInOrder xs → IsStrictlySortedBy place_order.cmp xs
unfolding IsStrictlySortedBy
strict_in_order [] o = tt
strict_in_order (x ∷ []) o = (tt, tt)
strict_in_order (x ∷ y ∷ xs) o =
    let rest = strict_in_order (y ∷ xs) o.1 in
    let l = is_less x y o.0 in
    ((l, all_above x y xs l rest.0), rest)

-- a first place of one list that stands later in the other is above its first
later : (x y : Place) (ys : List Place) → AllByRecursion (λ q. place_order.cmp y q ≡ Less) ys → IsIn x (y ∷ ys) → (x ≡ y) ⊎ (place_order.cmp y x ≡ Less)
later x y ys a h = elim h [ inl e ↦ inl e | inr m ↦ inr (above_all y x ys a m) ]

same_first : (x y : Place) (xs ys : List Place) → AllByRecursion (λ q. place_order.cmp x q ≡ Less) xs → AllByRecursion (λ q. place_order.cmp y q ≡ Less) ys → IsIn x (y ∷ ys) → IsIn y (x ∷ xs) → x ≡ y
same_first x y xs ys a b h k = elim (later x y ys b h) [
  | inl e ↦ e
  | inr l ↦ elim (later y x xs a k) [ inl e ↦ sym e | inr m ↦ absurd (not_below_itself x (place_total.trans x y x m l)) ]
]

in_rest : (x y v : Place) (xs ys : List Place) → x ≡ y → AllByRecursion (λ q. place_order.cmp x q ≡ Less) xs → IsIn v xs → IsIn v (y ∷ ys) → IsIn v ys
in_rest x y v xs ys e a m h = elim h [
  | inl d ↦ absurd (not_below_itself x (let l = above_all x v xs a m in let f : v ≡ x = d ∙ sym e in let P : Place → Type 0 = λ w. place_order.cmp x w ≡ Less in subst P f l))
  | inr n ↦ n
]

pub same_strict : (xs ys : List Place) → IsStrictlySortedBy place_order.cmp xs → IsStrictlySortedBy place_order.cmp ys → ((p : Place) → IsIn p xs → IsIn p ys) → ((p : Place) → IsIn p ys → IsIn p xs) → xs ≡ ys
unfolding IsStrictlySortedBy
same_strict [] [] s t to from = refl
same_strict [] (y ∷ ys) s t to from = absurd (from y (inl refl))
same_strict (x ∷ xs) [] s t to from = absurd (to x (inl refl))
same_strict (x ∷ xs) (y ∷ ys) s t to from =
    let e : x ≡ y = same_first x y xs ys s.0 t.0 (to x (inl refl)) (from y (inl refl)) in
    let r : xs ≡ ys = same_strict xs ys s.1 t.1
    (λ p m. in_rest x y p xs ys e s.0 m (to p (inr m)))
    (λ p m. in_rest y x p ys xs (sym e) t.0 m (from p (inr m))) in
    cc
