-- Loops over a list that test each element, or add up.
use Rattle.std.proofs.Common.{◌≡◌, ℕ, suc, ◌+◌, ◌<◌, List, ◌∷◌, length, get_or, drop, drop-cons, add-one, sym, ◌∙◌, ap, subst, inl, inr, arith}
use Rattle.std.specs.Prelude.{sum_by}
use Rattle.std.proofs.lemmas.Bool.{cases_eq}
use Rattle.std.proofs.lemmas.List.{get_or_default}
use Rattle.std.proofs.lemmas.List.Sums.{sum_by-cons}

-- each of the first i elements has P
abbrev pub AllBelow : {X : Type 0} → (X → Type 0) → List X → ℕ → Type 0
AllBelow {X} P xs i = (k : ℕ) (d : X) → k < i → P (get_or xs k d)

pub all_more : {X : Type 0} (P : X → Type 0) (xs : List X) (i : ℕ) (x : X) → i < length xs → x ≡ get_or xs i x → P x → AllBelow P xs i → AllBelow P xs (i + 1)
all_more {X} P xs i x l e p before k d m = elim (cases_eq k i) [
  | inl f ↦ (let Q : ℕ → Type 0 = λ n. P (get_or xs n d) in subst Q (sym f) (subst P (e ∙ get_or_default xs i x d l) p))
  | inr f ↦ before k d (omega (arith, m, f))
]

pub sum_next : {X : Type 0} (f : X → ℕ) (xs : List X) (i : ℕ) (x : X) → i < length xs → x ≡ get_or xs i x → sum_by f (drop i xs) ≡ f x + sum_by f (drop (i + 1) xs)
sum_next {X} f xs i x l e =
    let next : drop i xs ≡ x ∷ drop (i + 1) xs = rw (add-one, drop-cons xs i x) (ap (λ (y : X). y ∷ drop (suc i) xs) (sym e)) in
    ap (λ (ys : List X). sum_by f ys) next ∙ sum_by-cons f x (drop (i + 1) xs)
