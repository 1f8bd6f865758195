-- Loops over lists: what is left, and what stands at a place.
use Rattle.std.proofs.Common.{◌≡◌, ℕ, zero, suc, ◌+◌, ◌<◌, ◌≤◌, ltb-true, ltb-false, List, [], ◌∷◌, ◌++◌, length, map, get_or, drop, reverse, Some, None, Bool, true, false, nat_lt, refl, sym, ◌∙◌, ap, arith}
use Rattle.std.specs.Prelude.{not}
use Rattle.std.specs.List.{slice_get}
use Rattle.std.proofs.lemmas.Bool.{false≢true}
use Rattle.std.proofs.lemmas.List.{drop_more, map-append, reverse-append}

pub drop_first : {A : Type 0} (a : A) (xs : List A) (i : ℕ) → i < length xs → a ≡ get_or xs i a → drop i xs ≡ a ∷ drop (i + 1) xs
drop_first a xs i l e = drop_more xs i a l ∙ ap (λ y. y ∷ drop (i + 1) xs) (sym e)

-- What comes last is the first from behind.
pub last_first : {X Y : Type 0} (f : X → Y) (xs : List X) (x : X) → reverse (map f (xs ++ x ∷ [])) ≡ f x ∷ reverse (map f xs)
last_first f xs x = ap reverse (map-append f xs (x ∷ [])) ∙ reverse-append (map f xs) (f x ∷ [])

none_at : {A : Type 0} (xs : List A) (k : ℕ) → length xs ≤ k → slice_get xs k ≡ None
none_at [] k l = refl
none_at (x ∷ xs) zero l = absurd (omega arith)
none_at (x ∷ xs) (suc k) l = none_at xs k (omega arith)

some_at : {A : Type 0} (xs : List A) (k : ℕ) (d : A) → k < length xs → slice_get xs k ≡ Some (get_or xs k d)
some_at [] k d l = absurd (omega arith)
some_at (x ∷ xs) zero d l = refl
some_at (x ∷ xs) (suc k) d l = some_at xs k d (omega arith)

pub none_there : {A : Type 0} (xs : List A) (k : ℕ) → false ≡ nat_lt k (length xs) → slice_get xs k ≡ None
none_there xs k h = none_at xs k (ltb-false k (length xs) (sym h))

pub some_there : {A : Type 0} (xs : List A) (k : ℕ) (a : A) → true ≡ nat_lt k (length xs) → a ≡ get_or xs k a → slice_get xs k ≡ Some a
some_there xs k a h e = some_at xs k a (ltb-true k (length xs) (sym h)) ∙ ap Some (sym e)

pub not_true : (b : Bool) → not b ≡ true → b ≡ false
not_true true h = absurd (false≢true h)
not_true false h = refl
