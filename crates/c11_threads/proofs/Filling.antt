-- Loops that add to a list what is made of each element in turn.
use Rattle.std.specs.List.{flat_map}
use Rattle.std.proofs.Common.{◌≡◌, ℕ, ◌+◌, ◌<◌, ◌≤◌, List, [], ◌∷◌, ◌++◌, length, map, get_or, drop, reverse, sym, ◌∙◌, ap, append_assoc, append-nil}
use Rattle.std.proofs.lemmas.List.{drop_all, drop_more, map-append, reverse-append, nil_from_length}

-- one more copy
pub copied : {X : Type 0} (xs : List X) (i : ℕ) (x : X) (done next all : List X) → i < length xs → x ≡ get_or xs i x → next ≡ done ++ (x ∷ []) → done ++ drop i xs ≡ all → next ++ drop (i + 1) xs ≡ all
copied xs i x done next all l is more so_far =
    let rest = drop (i + 1) xs in
    let from_here : drop i xs ≡ x ∷ rest = drop_more xs i x l ∙ ap (λ y. y ∷ rest) (sym is) in
    ap (λ ys. ys ++ rest) more ∙ append_assoc done (x ∷ []) rest ∙ ap (λ ys. done ++ ys) (sym from_here) ∙ so_far

-- one more of what f makes
pub filled : {X Y : Type 0} (f : X → Y) (xs : List X) (i : ℕ) (d : X) (done next all : List Y) → i < length xs → next ≡ done ++ (f (get_or xs i d) ∷ []) → done ++ map f (drop i xs) ≡ all → next ++ map f (drop (i + 1) xs) ≡ all
filled f xs i d done next all l more so_far =
    let rest = map f (drop (i + 1) xs) in
    ap (λ ys. ys ++ rest) more ∙ append_assoc done (f (get_or xs i d) ∷ []) rest ∙ ap (λ ys. done ++ map f ys) (sym (drop_more xs i d l)) ∙ so_far

-- the same, where what is left is known
pub made_on : {X Y : Type 0} (f : X → Y) (xs rest : List X) (x : X) (done next all : List Y) → xs ≡ x ∷ rest → next ≡ done ++ (f x ∷ []) → done ++ map f xs ≡ all → next ++ map f rest ≡ all
made_on f xs rest x done next all steps more so_far =
    ap (λ ys. ys ++ map f rest) more ∙ append_assoc done (f x ∷ []) (map f rest) ∙ ap (λ ys. done ++ map f ys) (sym steps) ∙ so_far

pub all_made : {X Y : Type 0} (f : X → Y) (xs : List X) (done all : List Y) → length xs ≡ 0 → done ++ map f xs ≡ all → done ≡ all
all_made f xs done all none so_far = sym (append-nil done) ∙ ap (λ ys. done ++ map f ys) (sym (nil_from_length xs none)) ∙ so_far

pub all_filled : {X Y : Type 0} (f : X → Y) (xs : List X) (i : ℕ) (done all : List Y) → length xs ≤ i → done ++ map f (drop i xs) ≡ all → done ≡ all
all_filled f xs i done all l so_far = sym (append-nil done) ∙ ap (λ ys. done ++ map f ys) (sym (drop_all i xs l)) ∙ so_far

pub all_copied : {X : Type 0} (xs : List X) (i : ℕ) (done all : List X) → length xs ≤ i → done ++ drop i xs ≡ all → done ≡ all
all_copied xs i done all l so_far = sym (append-nil done) ∙ ap (λ ys. done ++ ys) (sym (drop_all i xs l)) ∙ so_far

-- more of what f makes, several of each
pub joined_on : {X Y : Type 0} (f : X → List Y) (xs rest : List X) (x : X) (done next all : List Y) → xs ≡ x ∷ rest → next ≡ done ++ f x → done ++ flat_map f xs ≡ all → next ++ flat_map f rest ≡ all
joined_on f xs rest x done next all steps more so_far =
    ap (λ ys. ys ++ flat_map f rest) more ∙ append_assoc done (f x) (flat_map f rest) ∙ ap (λ ys. done ++ flat_map f ys) (sym steps) ∙ so_far

pub all_joined : {X Y : Type 0} (f : X → List Y) (xs : List X) (done all : List Y) → length xs ≡ 0 → done ++ flat_map f xs ≡ all → done ≡ all
all_joined f xs done all none so_far =
    sym (append-nil done) ∙ ap (λ ys. done ++ flat_map f ys) (sym (nil_from_length xs none)) ∙ so_far

-- What comes last is the first from behind.
pub last_first : {X Y : Type 0} (f : X → Y) (xs : List X) (x : X) → reverse (map f (xs ++ (x ∷ []))) ≡ f x ∷ reverse (map f xs)
last_first f xs x = ap reverse (map-append f xs (x ∷ [])) ∙ reverse-append (map f xs) (f x ∷ [])
