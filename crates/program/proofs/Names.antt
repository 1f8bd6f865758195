-- Names of arguments are told apart by their first bytes.
use Rattle.std.proofs.Common.{◌≡◌, ◌⊎◌, ◌<◌, ap, arith, List, ℕ, inl, inr, slice_index}

pub unlike : (t u : List ℕ) → (slice_index t 0 < slice_index u 0) ⊎ (slice_index u 0 < slice_index t 0) → t ≡ u → ⊥
unlike t u (inl lt) e =
    let same = ap (λ w. slice_index w 0) e in
    absurd (omega arith)
unlike t u (inr lt) e =
    let same = ap (λ w. slice_index w 0) e in
    absurd (omega arith)
