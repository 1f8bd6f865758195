-- What is added for one element of a list after another.
use Rattle.std.proofs.Common.{◌≡◌, ◌∙◌, ℕ, ◌+◌, ◌<◌, ◌≤◌, List, [], ◌∷◌, ◌++◌, length, get_or, drop, ap, sym, append_assoc, append-nil}
use Rattle.std.proofs.lemmas.List.{at_drop_more, at_drop_all}

-- a part was added, and the rest is still to be
pub put_first : {B : Type 0} (old more new rest all : List B) → new ≡ old ++ more → old ++ (more ++ rest) ≡ all → new ++ rest ≡ all
put_first old more new rest all e h = ap (λ l. l ++ rest) e ∙ append_assoc old more rest ∙ h

-- what is made of the elements from one on
pub turn : {A Y : Type 0} (xs : List A) (i : ℕ) (d : A) (F : List A → Y) → i < length xs → F (drop i xs) ≡ F (get_or xs i d ∷ drop (i + 1) xs)
turn xs i d F l = at_drop_more F xs i d l

pub element_on : {A B : Type 0} (xs : List A) (i : ℕ) (d : A) (F : List A → List B) (more old new all : List B) → i < length xs → F (get_or xs i d ∷ drop (i + 1) xs) ≡ more ++ F (drop (i + 1) xs) → new ≡ old ++ more → old ++ F (drop i xs) ≡ all → new ++ F (drop (i + 1) xs) ≡ all
element_on xs i d F more old new all l step e h =
    put_first old more new _ all e (ap (λ l. old ++ l) (sym (at_drop_more F xs i d l ∙ step)) ∙ h)

-- no element is left
pub none_left : {A B : Type 0} (xs : List A) (i : ℕ) (F : List A → List B) (old all : List B) → length xs ≤ i → F [] ≡ [] → old ++ F (drop i xs) ≡ all → old ≡ all
none_left xs i F old all l e h = sym (append-nil old) ∙ ap (λ l. old ++ l) (sym (at_drop_all F xs i l ∙ e)) ∙ h

pub all_done : {A Y : Type 0} (xs : List A) (i : ℕ) (F : List A → Y) → length xs ≤ i → F (drop i xs) ≡ F []
all_done xs i F l = at_drop_all F xs i l
