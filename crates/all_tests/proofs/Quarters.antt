-- Results that are merged from the last numbers down.
use Rattle.std.proofs.Common.{◌≡◌, ◌≤◌, ◌<◌, ◌+◌, ◌++◌, ℕ, List, [], ◌∷◌, refl, sym, ap, subst, inl, inr, arith}
use Rattle.std.proofs.lemmas.Bool.{cases_lt}
use Rattle.listings.proofs.Listings.{in_append, in_left, in_right}
use Rattle.slices.specs.Tallies.{IsApart, IsCover, IsHeld}
use Rattle.slices.specs.declared.span.Span.{Span}

-- Just the numbers from low up to size are held.
pub record AreDown (low size : ℕ) (spans : List Span) : Type 0 where
  pub all : (i : ℕ) → low ≤ i → i < size → IsHeld spans i
  pub only : (i : ℕ) → IsHeld spans i → low ≤ i

pub apart_down : (s : Span) (high size : ℕ) (spans : List Span) → s.to ≡ high → AreDown high size spans → IsApart s spans
apart_down s high size spans to down i here held = let from = down.only i held in let below = here.1 in absurd (let no : ⊥ = omega (arith, from, below, to) in no)

pub more_down : (s : Span) (low high size : ℕ) (old new : List Span) → s.from ≡ low → s.to ≡ high → low ≤ high → AreDown high size old → new ≡ old ++ s ∷ [] → AreDown low size new
more_down s low high size old new begin to order down is =
    subst (AreDown low size) (sym is) (record {
      all = λ i from below. elim (cases_lt i high) [
        | inl here ↦ (s, in_right old (s ∷ []) s (inl refl), (omega (arith, from, begin), omega (arith, here, to)))
        | inr above ↦ (let h = down.all i above below in (h.0, in_left old (s ∷ []) h.0 h.1, h.2))
      ];
      only = λ i held. elim (in_append old (s ∷ []) held.0 held.1) [
        | inl before ↦ (let above = down.only i (held.0, before, held.2) in omega (arith, above, order))
        | inr last ↦ elim last [
          | inl same ↦ (let begins = ap (λ (x : Span). x.from) same in let from = held.2.0 in omega (arith, begins, from, begin))
          | inr nothing ↦ absurd nothing
        ]
      ];
    })

pub all_down : (low size : ℕ) (spans : List Span) → low ≡ 0 → AreDown low size spans → IsCover size spans
all_down low size spans none down i below = down.all i (omega (arith, none)) below
