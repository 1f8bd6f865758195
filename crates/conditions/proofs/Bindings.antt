-- Reading a state place by place.
use Rattle.std.proofs.Common.{◌≡◌, ℕ, ◌+◌, ◌<◌, List, ◌∷◌, length, get_or, drop, true, false, sym, refl, add-one, drop-cons, arith}
use Rattle.conditions.specs.States.{bindings, value_at}
use Rattle.conditions.specs.Equality.{same_place}
use Rattle.conditions.specs.declared.place.Place.{Place}

opened : (places : List Place) (values : List ℕ) (i : ℕ) (p : Place) → i < length places → length places ≡ length values → p ≡ get_or places i p → bindings (drop i places) (drop i values) ≡ (record { place = p; value = get_or values i 0 } ∷ bindings (drop (i + 1) places) (drop (i + 1) values))
opened places values i p l e is =
    let m : i < length values = omega (arith, l, e) in
    let back : get_or places i p ≡ p = sym is in
    rw (add-one, drop-cons places i p, drop-cons values i 0, back) refl

-- the place at i is the one that is asked for
pub read_here : (places : List Place) (values : List ℕ) (i : ℕ) (p place : Place) → i < length places → length places ≡ length values → p ≡ get_or places i p → same_place p place ≡ true → value_at (bindings (drop i places) (drop i values)) place ≡ get_or values i 0
read_here places values i p place l e is same = rw (opened places values i p l e is, same) refl

-- the place at i is another
pub read_on : (places : List Place) (values : List ℕ) (i : ℕ) (p place : Place) → i < length places → length places ≡ length values → p ≡ get_or places i p → same_place p place ≡ false → value_at (bindings (drop i places) (drop i values)) place ≡ value_at (bindings (drop (i + 1) places) (drop (i + 1) values)) place
read_on places values i p place l e is other = rw (opened places values i p l e is, other) refl
