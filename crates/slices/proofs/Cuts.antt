-- The slices of a cut follow one another.
use Rattle.std.proofs.Common.{◌≡◌, ℕ, suc, ◌+◌, ◌*◌, ◌<◌, ◌≤◌, List, [], ◌∷◌, ◌++◌, inl, inr, sym, ap, ◌∙◌, subst, arith}
use Rattle.std.proofs.lemmas.Bool.{cases_lt}
use Rattle.std.specs.Prelude.{◌/◌}
use Rattle.std.proofs.Math.Nat.{mul-div_cancel, div-le_of_le-mul, div-mul-le_self, le-div_iff_mul-le, mul-le-mul_left, mul_comm}
use Rattle.litmus_tree.specs.Tree.{Litmus}
use Rattle.slices.specs.declared.span.Span.{Span}
use Rattle.slices.specs.Parts.{IsRange, PieceResultValue, test_size}
use Rattle.slices.specs.Tallies.{cut, span_of, IsApart, IsHeld, CutsInOrder}
use Rattle.slices.proofs.Merging.{held_push, push_held}

rises : (n total i : ℕ) → 1 ≤ total → cut n total i ≤ cut n total (suc i)
rises n total i some =
    let fits = div-mul-le_self (n * i) total in
    let more : n * i ≤ n * suc i = mul-le-mul_left n (omega arith) in
    (le-div_iff_mul-le {k = total} {x = n * i / total} {y = n * suc i} (omega (arith, some))).1 (omega (arith, fits, more))

pub cuts : CutsInOrder
cuts n total some = record {
  first = let none = div-le_of_le-mul total {m = n * 0} {n = 0} (omega arith) in omega (arith, none);
  last = mul-div_cancel n (omega (arith, some));
  rising = λ i. rises n total i some;
}

-- before the first slice there is none
pub none_done : (n total : ℕ) (spans : List Span) → spans ≡ [] → ((j : ℕ) → IsHeld spans j → j < cut n total 0) × ((j : ℕ) → j < cut n total 0 → IsHeld spans j)
none_done n total spans e =
    let none = div-le_of_le-mul total {m = n * 0} {n = 0} (omega arith) in
    let P : List Span → Type 0 = λ held. ((j : ℕ) → IsHeld held j → j < cut n total 0) × ((j : ℕ) → j < cut n total 0 → IsHeld held j) in
    subst P (sym e) ((λ j h. absurd h.1), (λ j l. absurd (omega (arith, l, none))))

-- a slice's numbers are among all
pub slice_range : (t : Litmus) (n total i from to : ℕ) → n ≡ test_size t → i < total → from ≡ cut n total i → to ≡ cut n total (i + 1) → IsRange t from to
slice_range t n total i from to size less first last =
    let some : 1 ≤ total = omega (arith, less) in
    let next : i + 1 ≡ suc i = omega arith in
    let most : n * suc i ≤ n * total = mul-le-mul_left n (omega (arith, less)) in
    let turned : n * total ≡ total * n = mul_comm n total in
    let within : cut n total (suc i) ≤ n = div-le_of_le-mul total (omega (arith, most, turned)) in
    let to_is : to ≡ cut n total (suc i) = last ∙ ap (cut n total) next in
    record {
      order = omega (arith, first, to_is, rises n total i some);
      within = omega (arith, to_is, within, size);
    }

-- slice after slice: the ranges hold the numbers before the next one

pub next_apart : (n total i : ℕ) (r : PieceResultValue) (spans : List Span) → ((j : ℕ) → IsHeld spans j → j < cut n total i) → r.piece.from ≡ cut n total i → IsApart (span_of r) spans
next_apart n total i r spans below first j h k = let b = below j k in omega (arith, b, first, h.0)

pub next_below : (n total i : ℕ) (r : PieceResultValue) (old new : List Span) → 1 ≤ total → new ≡ old ++ span_of r ∷ [] → r.piece.to ≡ cut n total (i + 1) → ((j : ℕ) → IsHeld old j → j < cut n total i) → (j : ℕ) → IsHeld new j → j < cut n total (i + 1)
next_below n total i r old new some pushed last below j h =
    let H : List Span → Type 0 = λ l. IsHeld l j in
    let next : i + 1 ≡ suc i = omega arith in
    let step : cut n total (i + 1) ≡ cut n total (suc i) = ap (cut n total) next in
    elim (push_held old (span_of r) j (subst H pushed h)) [
      | inl k ↦ omega (arith, k.1, last)
      | inr k ↦ (let b = below j k in omega (arith, b, step, rises n total i some))
    ]

pub next_held : (n total i : ℕ) (r : PieceResultValue) (old new : List Span) → new ≡ old ++ span_of r ∷ [] → r.piece.from ≡ cut n total i → r.piece.to ≡ cut n total (i + 1) → ((j : ℕ) → j < cut n total i → IsHeld old j) → (j : ℕ) → j < cut n total (i + 1) → IsHeld new j
next_held n total i r old new pushed first last held j l =
    let H : List Span → Type 0 = λ k. IsHeld k j in
    subst H (sym pushed) (elim (cases_lt j (cut n total i)) [
      | inl k ↦ held_push old (span_of r) j (inr (held j k))
      | inr k ↦ held_push old (span_of r) j (inl (omega (arith, k, first), omega (arith, l, last)))
    ])

pub all_held : (n total i : ℕ) (spans : List Span) → 1 ≤ total → i ≡ total → ((j : ℕ) → j < cut n total i → IsHeld spans j) → (j : ℕ) → j < n → IsHeld spans j
all_held n total i spans some done held j l =
    let last = (cuts n total some).last in
    let same : cut n total i ≡ cut n total total = ap (cut n total) done in
    held j (omega (arith, l, last, same))
