-- Lists in keys, of values that contracts see by what they mean.
use Rattle.std.proofs.Common.{◌≡◌, ◌∙◌, ℕ, List, [], ◌∷◌, length, map, ap, refl, sym}
use Rattle.std.proofs.lemmas.List.{length-map}
use Rattle.keys.specs.Spelling.{number_over, all_over, list_over}

module _ {A B : Type 0} where
  all_meant : (f : A → B) (over : B → List ℕ → List ℕ) (xs : List A) (s : List ℕ) → all_over (λ x. over (f x)) xs s ≡ all_over over (map f xs) s
  all_meant f over [] s = refl
  all_meant f over (x ∷ xs) s = all_meant f over xs (over (f x) s)

  pub list_meant : (f : A → B) (over : B → List ℕ → List ℕ) (xs : List A) (s : List ℕ) → list_over (λ x. over (f x)) xs s ≡ list_over over (map f xs) s
  list_meant f over xs s = ap (λ n. number_over n (all_over (λ x. over (f x)) xs s)) (sym (length-map xs f)) ∙ ap (number_over (length (map f xs))) (all_meant f over xs s)
