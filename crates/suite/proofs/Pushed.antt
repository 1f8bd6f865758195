-- Text that is added part by part.
use Rattle.std.proofs.Common.{◌≡◌, ℕ, ◌+◌, ◌<◌, ◌≤◌, List, [], ◌∷◌, ◌++◌, length, get_or, map, take, drop, sym, ◌∙◌, ap, append_assoc, append-nil}
use Rattle.std.specs.List.{flat_map}
use Rattle.std.proofs.lemmas.List.{drop_all, drop_more, map-append, take_more}

-- one more of what f makes
pub pushed : {X : Type 0} (f : X → List ℕ) (x : X) (xs : List X) (i : ℕ) (old new all : List ℕ) → i < length xs → x ≡ get_or xs i x → new ≡ old ++ f x → old ++ flat_map f (drop i xs) ≡ all → new ++ flat_map f (drop (i + 1) xs) ≡ all
pushed f x xs i old new all l is more so_far =
    let rest = flat_map f (drop (i + 1) xs) in
    ap (λ t. t ++ rest) more ∙ append_assoc old (f x) rest ∙ ap (λ ys. old ++ flat_map f ys) (ap (λ y. y ∷ drop (i + 1) xs) is ∙ sym (drop_more xs i x l)) ∙ so_far

-- the same, of what stands there
pub pushed_at : {X : Type 0} (f : X → List ℕ) (d : X) (xs : List X) (i : ℕ) (old new all : List ℕ) → i < length xs → new ≡ old ++ f (get_or xs i d) → old ++ flat_map f (drop i xs) ≡ all → new ++ flat_map f (drop (i + 1) xs) ≡ all
pushed_at f d xs i old new all l more so_far =
    let rest = flat_map f (drop (i + 1) xs) in
    ap (λ t. t ++ rest) more ∙ append_assoc old (f (get_or xs i d)) rest ∙ ap (λ ys. old ++ flat_map f ys) (sym (drop_more xs i d l)) ∙ so_far

-- no more is left
pub all_pushed : {X : Type 0} (f : X → List ℕ) (xs : List X) (i : ℕ) (text all : List ℕ) → length xs ≤ i → text ++ flat_map f (drop i xs) ≡ all → text ≡ all
all_pushed f xs i text all l so_far = sym (append-nil text) ∙ ap (λ ys. text ++ flat_map f ys) (sym (drop_all i xs l)) ∙ so_far

-- one more value, which is seen as what f makes
pub seen_on : {X Y Z : Type 0} (g : Y → Z) (f : X → Z) (xs : List X) (i : ℕ) (x : X) (old new : List Y) (y : Y) → i < length xs → x ≡ get_or xs i x → new ≡ old ++ y ∷ [] → g y ≡ f x → map g old ≡ map f (take i xs) → map g new ≡ map f (take (i + 1) xs)
seen_on g f xs i x old new y l is more same so_far =
    let here = same ∙ ap f is in
    ap (map g) more ∙ map-append g old (y ∷ []) ∙ ap (λ zs. zs ++ g y ∷ []) so_far ∙ ap (λ z. map f (take i xs) ++ z ∷ []) here ∙ sym (map-append f (take i xs) (get_or xs i x ∷ [])) ∙ sym (ap (map f) (take_more xs i x l))

-- five parts behind a text
pub five : (t a b c d e : List ℕ) → t ++ (a ++ (b ++ (c ++ (d ++ (e ++ []))))) ≡ t ++ (a ++ b ++ c ++ d ++ e)
five t a b c d e =
    ap (λ x. t ++ x) (sym (append_assoc a b (c ++ (d ++ (e ++ [])))) ∙ sym (append_assoc (a ++ b) c (d ++ (e ++ []))) ∙ sym (append_assoc (a ++ b ++ c) d (e ++ [])) ∙ ap (λ x. a ++ b ++ c ++ d ++ x) (append-nil e))
