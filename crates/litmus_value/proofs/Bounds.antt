-- How great values and their sums are.
use Rattle.std.proofs.Common.{ℕ, ◌≤◌, ◌<◌, ◌+◌, List, length, map, get_or, subst, sym, inl, inr, arith}
use Rattle.std.specs.Prelude.{◌^◌, All}
use Rattle.listings.specs.Lists.{IsIn}
use Rattle.listings.proofs.Listings.{in_get_or, place_of, in_map}
use Rattle.litmus_value.specs.Gathering.{AreFew}
use Rattle.litmus_value.specs.Values.{with_value, with_sum}
use Rattle.litmus_value.proofs.Distinct.{with_in, with_values_in}

pub in_all : {X : Type 0} (P : X → Type 0) (xs : List X) (x : X) → All P xs → IsIn x xs → P x
in_all {X} P xs x h m = let at = place_of xs x x m in subst P at.2 (h at.0 x at.1)

pub all_in : {X : Type 0} (P : X → Type 0) (xs : List X) → ((x : X) → IsIn x xs → P x) → All P xs
all_in P xs h = λ i d l. h (get_or xs i d) (in_get_or xs i d l)

-- one constant more
pub few_with : (vs : List ℕ) (c : ℕ) → AreFew vs → c < 2 ^ 32 → length (with_value vs c) ≤ 16 → AreFew (with_value vs c)
few_with vs c h l n = record {
  few = n;
  narrow = all_in (λ v. v < 2 ^ 32) (with_value vs c) (λ v m. elim (with_in vs c v m) [ inl a ↦ in_all (λ w. w < 2 ^ 32) vs v h.narrow a | inr e ↦ (let Q : ℕ → Type 0 = λ w. w < 2 ^ 32 in subst Q (sym e) l) ]);
}

-- one add more
pub sums_below : (vs : List ℕ) (c m n : ℕ) → All (λ v. v < m) vs → c < 2 ^ 32 → m + 2 ^ 32 ≤ n → All (λ v. v < n) (with_sum vs c)
sums_below vs c m n h l o = all_in (λ v. v < n) (with_sum vs c) (λ v k. elim (with_values_in vs (map (λ w. w + c) vs) v k) [
  | inl a ↦ omega (arith, in_all (λ w. w < m) vs v h a, o)
  | inr b ↦ (let w = in_map (λ (u : ℕ). u + c) vs v b in omega (arith, in_all (λ u. u < m) vs w.0 h w.1, w.2, l, o))
])
