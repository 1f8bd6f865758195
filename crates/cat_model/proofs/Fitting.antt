-- What is known of parameters and of bound names, as weights.
use Rattle.std.proofs.Common.{◌≡◌, ◌⊎◌, ℕ, zero, suc, List, [], ◌∷◌, ◌++◌, length, get_or, Option, Some, cond, Bool, true, false, refl, sym, ◌∙◌, ap, inl, inr, arith}
use Rattle.std.specs.Str.{bytes_eq}
use Rattle.cat_tree.specs.Tree.{Word}
pub use Rattle.cat_model.proofs.Latest.{latest_push}
use Rattle.cat_model.specs.Lookups.{held_in}
use Rattle.cat_model.specs.declared.scope.BoundName.{BoundName}
use Rattle.cat_model.specs.declared.scope.Held.{Held}
use Rattle.cat_model.specs.declared.weights.Measure.{Measure}
use Rattle.cat_model.specs.Weights.{Alike, given, next_place, place_in, just_weight, by_held}

next_given : (m : Measure) (p : ℕ) (b : Bool) (k : ℕ) (ks ns : List ℕ) (e : ℕ) → given m (next_place p b) (k ∷ ks) ns e ≡ given m p ks ns (cond b (just_weight m k ns) e)
next_given m (suc i) b k ks ns e = refl
next_given m zero true k ks ns e = refl
next_given m zero false k ks ns e = refl

-- a first parameter is below the others
pub given_more : (m : Measure) (y : Word) (ys : List Word) (x : Word) (k : ℕ) (ks ns : List ℕ) (e : ℕ) → given m (place_in (y ∷ ys) x) (k ∷ ks) ns e ≡ given m (place_in ys x) ks ns (cond (bytes_eq y x) (just_weight m k ns) e)
given_more m y ys x k ks ns e = next_given m (place_in ys x) (bytes_eq y x) k ks ns e

pub alike_cond : (m : Measure) (b : Bool) (p q r s : ℕ) → Alike m p r → Alike m q s → Alike m (cond b p q) (cond b r s)
alike_cond m true p q r s h k = h
alike_cond m false p q r s h k = k

pub as_many : (xs : List Word) (ns : List ℕ) → (length ns ≡ length xs) ⊎ (length ns ≡ length xs → ⊥)
as_many [] [] = inl refl
as_many [] (n ∷ ns) = inr (λ e. omega (arith, e))
as_many (x ∷ xs) [] = inr (λ e. omega (arith, e))
as_many (x ∷ xs) (n ∷ ns) = elim (as_many xs ns) [
  | inl e ↦ inl (ap suc e)
  | inr f ↦ inr (λ e. f (omega (arith, e)))
]

held_cond : (m : Measure) (b : Bool) (h : Held) (o : Option Held) (ns : List ℕ) → by_held m (cond b (Some h) o) ns ≡ cond b (by_held m (Some h) ns) (by_held m o ns)
held_cond m true h o ns = refl
held_cond m false h o ns = refl

-- one more name hides what it stood for
pub held_more : (m : Measure) (names : List BoundName) (y : BoundName) (x : Word) (ns : List ℕ) → by_held m (held_in (names ++ y ∷ []) x) ns ≡ cond (bytes_eq y.name.now x) (by_held m (Some y.held) ns) (by_held m (held_in names x) ns)
held_more m names y x ns = ap (λ o. by_held m o ns) (latest_push (λ n. n.name.now) (λ n. n.held) names y x) ∙ held_cond m (bytes_eq y.name.now x) y.held (held_in names x) ns

pub only_weight : (ws : List ℕ) (n : ℕ) → length ws ≡ 1 → n ≡ get_or ws 0 n → ws ≡ n ∷ []
only_weight [] n l e = absurd (omega (arith, l))
only_weight (w ∷ []) n l e = ap (λ k. k ∷ []) (sym e)
only_weight (w ∷ (v ∷ ws)) n l e = absurd (omega (arith, l))
