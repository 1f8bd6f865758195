-- The sum of the sizes that are marked.
use Rattle.std.proofs.Common.{◌≡◌, ℕ, ◌+◌, ◌<◌, ◌≤◌, ◌^◌, List, length, take, get_or, subst, inl, inr, arith, Bool, true, false, Fits, w64}
use Rattle.std.proofs.lemmas.Bool.{cases_lt}
use Rattle.listings.specs.Lists.{sum_of}
use Rattle.candidates.proofs.Passed.{take_end}

pub marked_next : (marks : List Bool) (d e : ℕ) → get_or marks e false ≡ true → ((i : ℕ) → d ≤ i → i < e → get_or marks i false ≡ true) → (i : ℕ) → d ≤ i → i < e + 1 → get_or marks i false ≡ true
marked_next marks d e m h i a b = elim (cases_lt i e) [
  | inl l ↦ h i a l
  | inr l ↦ (let P : ℕ → Type 0 = λ k. get_or marks k false ≡ true in
      let is : e ≡ i = omega (arith, b, l) in
      subst P is m)
]

pub sum_fits : (sizes : List ℕ) (d e s : ℕ) → e < length sizes → sum_of (λ k. k) (take d sizes) + s ≡ sum_of (λ k. k) (take e sizes) → sum_of (λ k. k) sizes ≤ 2 ^ 32 → Fits w64 (s + get_or sizes e 0)
sum_fits sizes d e s l is most = omega (arith, is, most, take_end sizes e l)
