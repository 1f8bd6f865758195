-- What a loop over a walk has found.
use Rattle.std.proofs.Common.{◌≡◌, ℕ, zero, suc, ◌+◌, ◌-◌, ◌<◌, ◌≤◌, List, [], ◌∷◌, ◌++◌, Option, None, Some, append-nil, ◌∙◌, ap, arith}
use Rattle.events.specs.Executions.{GraphValue}
use Rattle.candidates.specs.Candidates.{Choices, graph_at, found, some_of}
use Rattle.candidates.specs.Walks.{Walking, NoneFrom, IsHit, IsMiss}

-- what stands at the numbers of a space from a to before b
abbrev pub found_from : Choices → ℕ → ℕ → List GraphValue
found_from s a b = found (λ i. graph_at s (a + i)) (b - a)

next_some : (at : ℕ → Option GraphValue) (n : ℕ) (x : GraphValue) → at n ≡ Some x → found at (suc n) ≡ found at n ++ x ∷ []
next_some at n x e = ap (λ o. found at n ++ some_of o) e

next_none : (at : ℕ → Option GraphValue) (n : ℕ) → at n ≡ None → found at (suc n) ≡ found at n
next_none at n e = ap (λ o. found at n ++ some_of o) e ∙ append-nil (found at n)

pass : (at : ℕ → Option GraphValue) (n k : ℕ) → ((m : ℕ) → n ≤ m → m < n + k → at m ≡ None) → found at (n + k) ≡ found at n
pass at n zero h = ap (found at) (let e : n + 0 ≡ n = omega arith in e)
pass at n (suc k) h =
    ap (found at) (let e : n + suc k ≡ suc (n + k) = omega arith in e)
    ∙ next_none at (n + k) (h (n + k) (omega arith) (omega arith))
    ∙ pass at n k (λ m a b. h m a (omega (arith, b)))

-- Where no execution stands, nothing is found.
pub pass_from : (s : Choices) (from a b : ℕ) → from ≤ a → a ≤ b → NoneFrom s a b → found_from s from b ≡ found_from s from a
pass_from s from a b l m none =
    let e : b - from ≡ (a - from) + (b - a) = omega (arith, l, m) in
    ap (found (λ i. graph_at s (from + i))) e
    ∙ pass (λ i. graph_at s (from + i)) (a - from) (b - a) (λ k p q. none (from + k) (omega (arith, p, l)) (omega (arith, q, l, m)))

-- Behind a hit one more execution has been found.
pub found_on : (from : ℕ) (v w : Walking) (n : ℕ) → from ≤ v.next → IsHit v w n → found_from w.space from w.next ≡ found_from v.space from v.next ++ w.shown ∷ []
found_on from v w n l h =
    let s = v.space in
    let here : graph_at s (from + (n - from)) ≡ Some w.shown = ap (graph_at s) (let e : from + (n - from) ≡ n = omega (arith, l, h.later) in e) ∙ h.at in
    ap (λ u. found_from u from w.next) h.step.space
    ∙ ap (λ i. found (λ i. graph_at s (from + i)) i) (let e : w.next - from ≡ suc (n - from) = omega (arith, l, h.later, h.step.next) in e)
    ∙ next_some (λ i. graph_at s (from + i)) (n - from) w.shown here
    ∙ ap (λ xs. xs ++ w.shown ∷ []) (pass_from s from v.next n l h.later h.none)

-- At the end of a walk all has been found.
pub found_at : (from : ℕ) (v w : Walking) → from ≤ v.next → IsMiss v w → found_from v.space from v.to ≡ found_from v.space from v.next
found_at from v w l h = pass_from v.space from v.next v.to l h.order h.none
