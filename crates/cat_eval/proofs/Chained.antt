-- Whether a chain of pairs leads from one event to another can be told, where it can be told of each pair.
use Rattle.std.proofs.Common.{◌≡◌, ℕ, zero, suc, ◌<◌, ◌⊎◌, subst, inl, inr, arith}
use Rattle.std.proofs.lemmas.Bool.{cases_eq}
use Rattle.listings.proofs.Telling.{Told, told_or, told_and, told_as}
use Rattle.relations.specs.Algebra.{Chain, one, more}

-- a chain from i to j whose inner events are below k
abbrev Via : (ℕ → ℕ → Type 0) → (k i j : ℕ) → Type 0
Via P zero i j = P i j
Via P (suc k) i j = Via P k i j ⊎ (Via P k i k × Via P k k j)

told_via : (P : ℕ → ℕ → Type 0) → ((i j : ℕ) → Told (P i j)) → (k i j : ℕ) → Told (Via P k i j)
told_via P d zero i j = d i j
told_via P d (suc k) i j = told_or (Via P k i j) (Via P k i k × Via P k k j) (told_via P d k i j) (told_and (Via P k i k) (Via P k k j) (told_via P d k i k) (told_via P d k k j))

append : (P : ℕ → ℕ → Type 0) (i m j : ℕ) → Chain P i m → Chain P m j → Chain P i j
append P i m j (one p) c = more m p c
append P i m j (more x p d) c = more x p (append P x m j d c)

of_via : (P : ℕ → ℕ → Type 0) (k i j : ℕ) → Via P k i j → Chain P i j
of_via P zero i j p = one p
of_via P (suc k) i j (inl v) = of_via P k i j v
of_via P (suc k) i j (inr v) = append P i k j (of_via P k i k v.0) (of_via P k k j v.1)

direct : (P : ℕ → ℕ → Type 0) (k i j : ℕ) → P i j → Via P k i j
direct P zero i j p = p
direct P (suc k) i j p = inl (direct P k i j p)

to_last : (P : ℕ → ℕ → Type 0) (k i : ℕ) → Via P (suc k) i k → Via P k i k
to_last P k i (inl v) = v
to_last P k i (inr v) = v.0

from_last : (P : ℕ → ℕ → Type 0) (k j : ℕ) → Via P (suc k) k j → Via P k k j
from_last P k j (inl v) = v
from_last P k j (inr v) = v.1

-- Two such chains meet in an event before the last one.
met_before : (P : ℕ → ℕ → Type 0) (k i m j : ℕ) → ((x y : ℕ) → Via P k x m → Via P k m y → Via P k x y) → Via P (suc k) i m → Via P (suc k) m j → Via P (suc k) i j
met_before P k i m j f (inl a) (inl b) = inl (f i j a b)
met_before P k i m j f (inl a) (inr b) = inr (f i k a b.0, b.1)
met_before P k i m j f (inr a) (inl b) = inr (a.0, f k j a.1 b)
met_before P k i m j f (inr a) (inr b) = inr (a.0, b.1)

met : (P : ℕ → ℕ → Type 0) (k i m j : ℕ) → m < k → Via P k i m → Via P k m j → Via P k i j
met P zero i m j l v w = absurd (omega (arith, l))
met P (suc k) i m j l v w = elim (cases_eq m k) [
  | inl e ↦ (let A : ℕ → Type 0 = λ x. Via P (suc k) i x in
      let B : ℕ → Type 0 = λ x. Via P (suc k) x j in
      inr (to_last P k i (subst A e v), from_last P k j (subst B e w)))
  | inr d ↦ met_before P k i m j (λ x y. met P k x m y (omega (arith, l, d))) v w
]

begins : (P : ℕ → ℕ → Type 0) (n : ℕ) → ((i j : ℕ) → P i j → i < n) → (i j : ℕ) → Chain P i j → i < n
begins P n f i j (one p) = f i j p
begins P n f i j (more m p c) = f i m p

to_via : (P : ℕ → ℕ → Type 0) (n : ℕ) → ((i j : ℕ) → P i j → i < n) → (i j : ℕ) → Chain P i j → Via P n i j
to_via P n f i j (one p) = direct P n i j p
to_via P n f i j (more m p c) = met P n i m j (begins P n f m j c) (direct P n i m p) (to_via P n f m j c)

-- Whether a chain leads from one event to another, where pairs begin at one of n events.
pub told_chain : (P : ℕ → ℕ → Type 0) (n : ℕ) → ((i j : ℕ) → P i j → i < n) → ((i j : ℕ) → Told (P i j)) → (i j : ℕ) → Told (Chain P i j)
told_chain P n f d i j = told_as (Via P n i j) (Chain P i j) (of_via P n i j) (to_via P n f i j) (told_via P d n i j)
