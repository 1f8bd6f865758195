-- Lists that are filled place by place, over what stood there before.
use Rattle.std.proofs.Common.{◌≡◌, ℕ, zero, suc, ◌+◌, ◌<◌, ◌≤◌, List, [], ◌∷◌, ◌++◌, take, length, get_or, set, refl, sym, ◌∙◌, ap, arith}
use Rattle.std.proofs.lemmas.List.{take_more_set, take_all}
use Rattle.std.proofs.Math.Seq.{take-suc}

-- Up to the place i the list is that of before and then x.
abbrev pub IsPut : {X : Type 0} → List X → List X → ℕ → X → Type 0
IsPut old new i x = (take (i + 1) new ≡ take i old ++ x ∷ []) × (i < length new)

longer : {X : Type 0} (xs : List X) (x : X) → length (xs ++ x ∷ []) ≡ length xs + 1
longer [] x = refl
longer (y ∷ xs) x = let h = longer xs x in omega (arith, h)

longer_set : {X : Type 0} (xs : List X) (i : ℕ) (x : X) → length (set xs i x) ≡ length xs
longer_set [] i x = refl
longer_set (y ∷ xs) zero x = refl
longer_set (y ∷ xs) (suc i) x = let h = longer_set xs i x in omega (arith, h)

pub put_over : {X : Type 0} (old new : List X) (i : ℕ) (x : X) → i < length old → new ≡ set old i x → IsPut old new i x
put_over old new i x l is =
    let n : length new ≡ length old = ap (λ xs. length xs) is ∙ longer_set old i x in (
      ap (take (i + 1)) is ∙ take_more_set old i x l,
      omega (arith, n, l),
    )

-- What is put behind all others.
pub put_behind : {X : Type 0} (old new : List X) (i : ℕ) (x : X) → i ≤ length old → length old ≤ i → new ≡ old ++ x ∷ [] → IsPut old new i x
put_behind {X = X} old new i x l m is =
    let n : length new ≡ length old + 1 = ap (λ (xs : List X). length xs) is ∙ longer old x in (
      take_all (i + 1) new (omega (arith, n, m)) ∙ is ∙ ap (λ (xs : List X). xs ++ x ∷ []) (sym (take_all i old m)),
      omega (arith, n, l),
    )

-- What is put over what was taken out.
pub put_back : {X : Type 0} (old gone new : List X) (i : ℕ) (y x : X) → i < length old → gone ≡ set old i y → new ≡ set gone i x → IsPut old new i x
put_back old gone new i y x l is at =
    let g : length gone ≡ length old = ap (λ xs. length xs) is ∙ longer_set old i y in
    let p = put_over gone new i x (omega (arith, g, l)) at in (
      p.0 ∙ ap (λ xs. xs ++ x ∷ []) (ap (take i) is ∙ kept old i y),
      p.1,
    )
  where
    kept : {X : Type 0} (xs : List X) (i : ℕ) (y : X) → take i (set xs i y) ≡ take i xs
    kept [] zero y = refl
    kept [] (suc i) y = refl
    kept (z ∷ xs) zero y = refl
    kept {X = X} (z ∷ xs) (suc i) y = ap (λ (zs : List X). z ∷ zs) (kept xs i y)

-- A list that is as another up to a place is so up to the next, if the other's is put there.
pub put_on : {X : Type 0} (old new wanted : List X) (i : ℕ) (x : X) → i < length wanted → x ≡ get_or wanted i x → IsPut old new i x → take i old ≡ take i wanted → take (i + 1) new ≡ take (i + 1) wanted
put_on {X = X} old new wanted i x l is p same =
    let s : suc i ≡ i + 1 = omega arith in
    p.0 ∙ ap (λ xs. xs ++ x ∷ []) same ∙ ap (λ (z : X). take i wanted ++ z ∷ []) is ∙ sym (take-suc wanted i x l) ∙ ap (λ k. take k wanted) s

pub put_all : {X : Type 0} (xs wanted new : List X) (i n : ℕ) → n ≡ length wanted → i ≤ n → n ≤ i → new ≡ take n xs → take i xs ≡ take i wanted → new ≡ wanted
put_all xs wanted new i n e l m is same =
    let k : n ≡ i = omega (arith, l, m) in
    is ∙ ap (λ j. take j xs) k ∙ same ∙ take_all i wanted (omega (arith, m, e))

-- What is cut off behind a place.
pub cut_behind : {X : Type 0} (xs new : List X) (i n : ℕ) → i ≤ n → n ≤ i → new ≡ take n xs → new ≡ take i xs
cut_behind xs new i n l m is = let k : n ≡ i = omega (arith, l, m) in is ∙ ap (λ j. take j xs) k
