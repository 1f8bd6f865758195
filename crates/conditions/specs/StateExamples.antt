-- What the definitions of States give on the condition of store buffering.
use Rattle.std.specs.Prelude.{◌≡◌, List, [], ◌∷◌, true, false, refl, codes}
use Rattle.std.proofs.Common.{inl, lit<}
use Rattle.conditions.specs.Conditions.{Formula, equals, conjunction, implication}
use Rattle.conditions.specs.States.{bindings, value_at, holds_in, answers_ok, AreInOrder}
use Rattle.conditions.specs.declared.condition.Kind.TheVariants.{Exists, Forall}
use Rattle.conditions.specs.declared.place.Place.{Place}
use Rattle.conditions.specs.declared.place.Place.TheVariants.{Reg, Loc}

-- r0 of thread 0, r0 of thread 1, and x
abbrev places : List Place
places = Reg 0 (codes "r0") ∷ Reg 1 (codes "r0") ∷ Loc (codes "x") ∷ []

-- 0:r0=0 /\ 1:r0=0
abbrev both_zero : Formula
both_zero = conjunction (equals (Reg 0 (codes "r0")) 0) (equals (Reg 1 (codes "r0")) 0)

both : holds_in (bindings places (0 ∷ 0 ∷ 1 ∷ [])) both_zero ≡ true
both = refl

one : holds_in (bindings places (0 ∷ 1 ∷ 1 ∷ [])) both_zero ≡ false
one = refl

-- a false premise
implied : holds_in (bindings places (0 ∷ 1 ∷ 1 ∷ [])) (implication both_zero (equals (Loc (codes "x")) 2)) ≡ true
implied = refl

-- a place that isn't listed has 0
unlisted : value_at (bindings places (1 ∷ 1 ∷ 1 ∷ [])) (Loc (codes "y")) ≡ 0
unlisted = refl

in_order : AreInOrder places
in_order = (inl (lit< tt), (tt, tt))

-- with no execution `exists` is answered No and the others Ok
none : answers_ok Exists 0 0 ≡ false
none = refl

all_of_none : answers_ok Forall 0 0 ≡ true
all_of_none = refl
