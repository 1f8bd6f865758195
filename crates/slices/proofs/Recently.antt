-- Final states that were found last.
use Rattle.std.proofs.Common.{◌≡◌, ◌⊎◌, ℕ, zero, suc, ◌^◌, ◌<◌, ◌≤◌, List, [], ◌∷◌, length, replicate, sym, subst, inl, inr, arith}
use Rattle.std.specs.Prelude.{slice_set}
use Rattle.listings.specs.Lists.{IsIn}
use Rattle.slices.specs.Findings.{FindingValue}
use Rattle.slices.specs.declared.recent.Known.{Known}
use Rattle.slices.specs.Numbers.{with_values}
use Rattle.slices.specs.Recents.{IsKnown}
use Rattle.slices.proofs.Numbered.{number_below}

-- no state has this number
pub none_known : (v : FindingValue) (base : ℕ) (k : Known) → base ^ length v.places ≤ 2 ^ 63 → k.number ≡ 18446744073709551615 → IsKnown v base k
none_known v base k room is row long digits e =
    let below : with_values base 0 row < base ^ length row = number_below base row digits in
    let r : base ^ length row ≤ 2 ^ 63 = subst (λ n. base ^ n ≤ 2 ^ 63) (sym long) room in
    absurd (omega (arith, below, r, e, is))

set_in : {X : Type 0} (xs : List X) (i : ℕ) (y x : X) → IsIn x (slice_set xs i y) → (x ≡ y) ⊎ IsIn x xs
set_in [] i y x h = absurd h
set_in (z ∷ zs) zero y x (inl e) = inl e
set_in (z ∷ zs) zero y x (inr p) = inr (inr p)
set_in (z ∷ zs) (suc i) y x (inl e) = inr (inl e)
set_in (z ∷ zs) (suc i) y x (inr p) = elim (set_in zs i y x p) [ inl e ↦ inl e | inr q ↦ inr (inr q) ]

-- a state more
pub known_more : (v : FindingValue) (base i : ℕ) (old new : List Known) (k : Known) → ((j : Known) → IsIn j old → IsKnown v base j) → IsKnown v base k → new ≡ slice_set old i k → (j : Known) → IsIn j new → IsKnown v base j
known_more v base i old new k h is e j p =
    elim (set_in old i k j (subst (λ ks. IsIn j ks) e p)) [
      | inl same ↦ subst (λ z. IsKnown v base z) (sym same) is
      | inr q ↦ h j q
    ]

pub same_of : (n : ℕ) (x k : Known) → IsIn k (replicate n x) → k ≡ x
same_of zero x k p = absurd p
same_of (suc n) x k (inl e) = e
same_of (suc n) x k (inr p) = same_of n x k p
