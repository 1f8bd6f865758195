-- Lists of trees.
use Rattle.std.proofs.Common.{◌≡◌, ℕ, List, [], ◌∷◌, map, length, suc, refl, ap, ◌∙◌}
use Rattle.keys.specs.Spelling.{all_over, list_over, number_over}

length_map : {X A : Type 0} (f : X → A) (xs : List X) → length xs ≡ length (map f xs)
length_map f [] = refl
length_map f (x ∷ xs) = ap suc (length_map f xs)

all_over_map : {X A : Type 0} (f : X → A) (over : A → List ℕ → List ℕ) (xs : List X) (s : List ℕ) → all_over (λ x. over (f x)) xs s ≡ all_over over (map f xs) s
all_over_map f over [] s = refl
all_over_map f over (x ∷ xs) s = all_over_map f over xs (over (f x) s)

-- lists are written as the lists of their trees
pub list_over_map : {X A : Type 0} (f : X → A) (over : A → List ℕ → List ℕ) (xs : List X) (s : List ℕ) → list_over (λ x. over (f x)) xs s ≡ list_over over (map f xs) s
list_over_map f over xs s = ap (λ n. number_over n (all_over (λ x. over (f x)) xs s)) (length_map f xs) ∙ ap (number_over (length (map f xs))) (all_over_map f over xs s)
