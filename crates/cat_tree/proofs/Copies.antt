-- Loops that copy a list from its front.
use Rattle.std.proofs.Common.{◌≡◌, ◌∙◌, ◌+◌, ◌<◌, ℕ, List, [], ◌∷◌, ◌++◌, map, take, length, get_or, ap, sym}
use Rattle.std.proofs.lemmas.List.{map-append, take_more}

-- one more element of a list
pub front_more : {A : Type 0} (xs : List A) (i : ℕ) (x : A) → i < length xs → x ≡ get_or xs i x → take (i + 1) xs ≡ take i xs ++ x ∷ []
front_more xs i x l at = take_more xs i x l ∙ ap (λ y. take i xs ++ y ∷ []) (sym at)

-- one more that is equal
pub copy_more : {A : Type 0} (old new items xs : List A) (i : ℕ) (x y : A) → items ≡ xs → i < length items → x ≡ get_or items i x → y ≡ x → new ≡ old ++ y ∷ [] → old ≡ take i xs → new ≡ take (i + 1) xs
copy_more old new items xs i x y e l at same more h =
    more ∙ ap (λ z. old ++ z ∷ []) same ∙ ap (λ zs. zs ++ x ∷ []) (h ∙ ap (λ zs. take i zs) (sym e)) ∙ sym (front_more items i x l at) ∙ ap (λ zs. take (i + 1) zs) e

-- one more that means the same
pub meaning_more : {A B : Type 0} (f : A → B) (old new items xs : List A) (i : ℕ) (x y : A) → items ≡ xs → i < length items → x ≡ get_or items i x → f y ≡ f x → new ≡ old ++ y ∷ [] → map f old ≡ map f (take i xs) → map f new ≡ map f (take (i + 1) xs)
meaning_more f old new items xs i x y e l at same more h =
    ap (λ zs. map f zs) more ∙ map-append f old (y ∷ []) ∙ ap (λ z. map f old ++ z ∷ []) same ∙ ap (λ zs. zs ++ f x ∷ []) (h ∙ ap (λ zs. map f (take i zs)) (sym e))
    ∙ sym (map-append f (take i items) (x ∷ [])) ∙ ap (λ zs. map f zs) (sym (front_more items i x l at)) ∙ ap (λ zs. map f (take (i + 1) zs)) e
