-- The order of places: as specs/ has it, total, and with ties exactly at equal places.
use Rattle.std.proofs.Common.{◌≡◌, ℕ, ◌<◌, ◌⊎◌, inl, inr, Less, Equal, Greater, refl, arith}
use Rattle.std.specs.Cmp.{IsTotalOrder}
use Rattle.std.specs.Ordering.{eq_by_cmp, nat_cmp, ordering_then, MatchOrdering}
use Rattle.std.specs.declared.cmp.Ordering.{Ordering}
use Rattle.std.proofs.lemmas.Cmp.{ranked}
use Rattle.conditions.specs.declared.place.Place.{Place}
use Rattle.conditions.specs.declared.place.Place.TheVariants.{Reg, Loc}
use Rattle.conditions.specs.States.{Precedes}
use Rattle.conditions.specs.Equality.{same_place}
use Rattle.conditions.specs.contracts.place.PlaceOrd.TheImpl.{ghosts as place_order}
use Rattle.conditions.specs.contracts.place.PlaceOrd.TheImpl.Laws.{total-law, matches_eq-law}

pub place_total : IsTotalOrder place_order.cmp
place_total = total-law

pub place_ties : (a b : Place) → same_place a b ≡ eq_by_cmp place_order.cmp a b
place_ties = matches_eq-law

below_first : (k j : ℕ) (o p : Ordering) → p ≡ nat_cmp k j → MatchOrdering p (k < j) (k ≡ j) (j < k) → ordering_then p o ≡ Less → (k < j) ⊎ ((k ≡ j) × (o ≡ Less))
below_first k j o Less is m h = inl m
below_first k j o Equal is m h = inr (m, h)
below_first k j o Greater is m h = cc

first_below : (k j : ℕ) (o p : Ordering) → p ≡ nat_cmp k j → MatchOrdering p (k < j) (k ≡ j) (j < k) → (k < j) ⊎ ((k ≡ j) × (o ≡ Less)) → ordering_then p o ≡ Less
first_below k j o Less is m h = refl
first_below k j o Equal is m h = elim h [ inl l ↦ absurd (omega (arith, l, m)) | inr e ↦ e.1 ]
first_below k j o Greater is m h = elim h [ inl l ↦ absurd (omega (arith, l, m)) | inr e ↦ absurd (omega (arith, e.0, m)) ]

pub precedes : (a b : Place) → place_order.cmp a b ≡ Less → Precedes a b
precedes (Reg k x) (Reg j y) h = below_first k j _ _ refl (ranked k j _ refl) h
precedes (Reg k x) (Loc y) h = tt
precedes (Loc x) (Reg k y) h = cc
precedes (Loc x) (Loc y) h = h

pub is_less : (a b : Place) → Precedes a b → place_order.cmp a b ≡ Less
is_less (Reg k x) (Reg j y) h = first_below k j _ _ refl (ranked k j _ refl) h
is_less (Reg k x) (Loc y) h = refl
is_less (Loc x) (Reg k y) h = absurd h
is_less (Loc x) (Loc y) h = h
