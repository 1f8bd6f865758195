-- Lists: counts, and what stands at a place.
use Rattle.std.proofs.Common.{◌≡◌, ℕ, zero, suc, ◌+◌, ◌<◌, ◌≤◌, List, [], ◌∷◌, ◌++◌, Bool, true, false, cond, count_by, Some, refl, sym, ap, subst, arith}
use Rattle.std.specs.Prelude.{slice_get, nat_le, nat_lt, ◌&&◌}
use Rattle.std.specs.List.{list_all}
use Rattle.std.proofs.lemmas.Bool.{le-leb, lt-ltb, leb-true, ltb-true}
use Rattle.std.proofs.lemmas.List.Sums.{sum_by-append, sum_by-cons}
use Rattle.book.specs.Step.{has_number}
use Rattle.book.specs.declared.slice.Slice.{Slice}

pub count-cons : {X : Type 0} (p : X → Bool) (x : X) (xs : List X) → count_by p (x ∷ xs) ≡ cond (p x) 1 0 + count_by p xs
count-cons p x xs = sum_by-cons (λ y. cond (p y) 1 0) x xs

pub count-append : {X : Type 0} (p : X → Bool) (xs ys : List X) → count_by p (xs ++ ys) ≡ count_by p xs + count_by p ys
count-append p xs ys = sum_by-append (λ y. cond (p y) 1 0) xs ys

-- at places of a list

abbrev pub weight : Bool → ℕ
weight b = cond b 1 0

heavy : {X : Type 0} (p : X → Bool) (x y : X) → y ≡ x → p x ≡ true → weight (p y) ≡ 1
heavy {X} p x y same is = let P : X → Type 0 = λ z. weight (p z) ≡ 1 in subst P (sym same) (ap weight is)

pub get_counted : {X : Type 0} (p : X → Bool) (xs : List X) (a : ℕ) (x : X) → slice_get xs a ≡ Some x → p x ≡ true → 1 ≤ count_by p xs
get_counted p [] a x e is = cc
get_counted {X} p (y ∷ ys) zero x e is =
    let same : y ≡ x = cc in
    let yes = heavy p x y same is in
    omega (arith, yes, count-cons p y ys)
get_counted p (y ∷ ys) (suc a) x e is = omega (arith, get_counted p ys a x e is, count-cons p y ys)

pub one_counted : {X : Type 0} (p : X → Bool) (xs : List X) (a b : ℕ) (x y : X) → count_by p xs ≤ 1 → slice_get xs a ≡ Some x → slice_get xs b ≡ Some y → p x ≡ true → p y ≡ true → a ≡ b
one_counted p [] a b x y one ea eb ix iy = cc
one_counted p (z ∷ zs) zero zero x y one ea eb ix iy = refl
one_counted {X} p (z ∷ zs) zero (suc b) x y one ea eb ix iy =
    let same : z ≡ x = cc in
    let yes = heavy p x z same ix in
    absurd (omega (arith, yes, one, count-cons p z zs, get_counted p zs b y eb iy))
one_counted {X} p (z ∷ zs) (suc a) zero x y one ea eb ix iy =
    let same : z ≡ y = cc in
    let yes = heavy p y z same iy in
    absurd (omega (arith, yes, one, count-cons p z zs, get_counted p zs a x ea ix))
one_counted p (z ∷ zs) (suc a) (suc b) x y one ea eb ix iy = ap (λ n. suc n) (one_counted p zs a b x y (omega (arith, one, count-cons p z zs)) ea eb ix iy)

counted_first : {X : Type 0} (p : X → Bool) (z : X) (zs : List X) (b : Bool) → p z ≡ b → 1 ≤ cond b 1 0 + count_by p zs → (1 ≤ count_by p zs → (a : ℕ) × (x : X) × (slice_get zs a ≡ Some x) × (p x ≡ true)) → (a : ℕ) × (x : X) × (slice_get (z ∷ zs) a ≡ Some x) × (p x ≡ true)
counted_first p z zs true is h rest = (0, z, refl, is)
counted_first p z zs false is h rest = let r = rest (omega (arith, h)) in (suc r.0, r.1, r.2, r.3)

pub counted_get : {X : Type 0} (p : X → Bool) (xs : List X) → 1 ≤ count_by p xs → (a : ℕ) × (x : X) × (slice_get xs a ≡ Some x) × (p x ≡ true)
counted_get p [] h = absurd (omega (arith, h))
counted_get p (z ∷ zs) h = counted_first p z zs (p z) refl (omega (arith, h, count-cons p z zs)) (counted_get p zs)

pub and_left : (a b : Bool) → (a && b) ≡ true → a ≡ true
and_left true b h = refl
and_left false b h = h

pub and_right : (a b : Bool) → (a && b) ≡ true → b ≡ true
and_right true b h = h
and_right false b h = cc

pub all_get : {X : Type 0} (p : X → Bool) (xs : List X) (i : ℕ) (x : X) → list_all p xs ≡ true → slice_get xs i ≡ Some x → p x ≡ true
all_get p [] i x h e = cc
all_get {X} p (y ∷ ys) zero x h e =
    let same : y ≡ x = cc in
    let P : X → Type 0 = λ z. p z ≡ true in
    subst P same (and_left (p y) (list_all p ys) h)
all_get p (y ∷ ys) (suc i) x h e = all_get p ys i x (and_right (p y) (list_all p ys) h) e

pub numbered_in : (x : Slice) (i : ℕ) → x.from ≤ i → i < x.to → has_number i x ≡ true
numbered_in x i a b = rw (le-leb x.from i a, lt-ltb i x.to b) refl

pub in_numbered : (x : Slice) (i : ℕ) → has_number i x ≡ true → (x.from ≤ i) × (i < x.to)
in_numbered x i h = (leb-true x.from i (and_left (nat_le x.from i) (nat_lt i x.to) h), ltb-true i x.to (and_right (nat_le x.from i) (nat_lt i x.to) h))
