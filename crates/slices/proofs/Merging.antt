-- The executions at the numbers of several ranges, each once.
use Rattle.std.proofs.Common.{◌≡◌, ℕ, zero, suc, ◌+◌, ◌-◌, ◌<◌, ◌≤◌, ◌⊎◌, List, [], ◌∷◌, ◌++◌, length, Option, None, Some, sym, ap, ◌∙◌, subst, inl, inr, arith}
use Rattle.std.specs.Prelude.{IfSome}
use Rattle.std.proofs.lemmas.List.{length-append}
use Rattle.cat_eval.specs.Judging.{Allowed}
use Rattle.cat_tree.specs.Tree.{Clause}
use Rattle.events.specs.Executions.{GraphValue}
use Rattle.listings.specs.Lists.{IsIn, Lists}
use Rattle.litmus_tree.specs.Tree.{Litmus}
use Rattle.candidates.specs.Candidates.{At, IsNumberedBy, found, some_of}
use Rattle.candidates.specs.Executions.{IsExecution}
use Rattle.candidates.proofs.Law.{numbering, sized}
use Rattle.candidates.proofs.Tallies.{in_found, found_in, once_found}
use Rattle.slices.specs.declared.span.Span.{Span}
use Rattle.slices.specs.Parts.{AreThose, executions_in, test_size}
use Rattle.slices.specs.Tallies.{holds, IsHeld, IsApart, IsCover, IsAmong}
use Rattle.slices.specs.Verdicts.{IsAllowed}
use Rattle.slices.proofs.Counted.{in_front, at_last, of_push, lists_those}
use Rattle.slices.proofs.Members.{lists_same, lists_append, no_longer}

-- what stands at the numbers of a range

few_some : (o : Option GraphValue) → length (some_of o) ≤ 1
few_some None = omega arith
few_some (Some y) = omega arith

found_most : (at : ℕ → Option GraphValue) (n : ℕ) → length (found at n) ≤ n
found_most at zero = omega arith
found_most at (suc n) = omega (arith, found_most at n, few_some (at n), length-append (found at n) (some_of (at n)))

shifted : (from to i j : ℕ) → i < to - from → j < to - from → from + i ≡ from + j → i ≡ j
shifted from to i j li lj e = omega (arith, e)

at_shifted : (at : ℕ → Option GraphValue) (from i : ℕ) (x : GraphValue) → from ≤ i → at i ≡ Some x → at (from + (i - from)) ≡ Some x
at_shifted at from i x le e =
    let here : from + (i - from) ≡ i = omega (arith, le) in
    ap at here ∙ e

abbrev StandsIn : Litmus → Span → GraphValue → Type 0
StandsIn t s x = (i : ℕ) × holds s i × (At t i ≡ Some x)

range_listed : (t : Litmus) (n : ℕ) (s : Span) → IsNumberedBy t n (At t) → s.to ≤ n → Lists (StandsIn t s) (executions_in t s.from s.to)
range_listed t n s law le =
    let from = s.from in
    let to = s.to in
    record {
      once = once_found (λ i. At t (from + i)) (to - from) (λ x i j li lj ei ej. shifted from to i j li lj (law.once x (from + i) (from + j) (omega (arith, li, le)) (omega (arith, lj, le)) ei ej));
      only = λ x p. (let r = in_found (λ i. At t (from + i)) (to - from) x p in (from + r.0, (omega arith, omega (arith, r.1)), r.2));
      all = λ x h. found_in (λ i. At t (from + i)) (to - from) (h.0 - from) x (omega (arith, h.1.0, h.1.1)) (at_shifted (At t) from h.0 x h.1.0 h.2);
    }

-- one range more

pub held_push : (spans : List Span) (s : Span) (i : ℕ) → holds s i ⊎ IsHeld spans i → IsHeld (spans ++ s ∷ []) i
held_push spans s i (inl h) = (s, at_last spans s, h)
held_push spans s i (inr r) = (r.0, in_front r.0 spans s r.1, r.2)

pub push_held : (spans : List Span) (s : Span) (i : ℕ) → IsHeld (spans ++ s ∷ []) i → holds s i ⊎ IsHeld spans i
push_held spans s i h = elim (of_push h.0 spans s h.1) [
  | inl p ↦ inr (h.0, p, h.2)
  | inr e ↦ inl (let P : Span → Type 0 = λ r. holds r i in subst P e h.2)
]

pub within_push : (n : ℕ) (spans : List Span) (s : Span) → s.to ≤ n → ((r : Span) → IsIn r spans → r.to ≤ n) → (r : Span) → IsIn r (spans ++ s ∷ []) → r.to ≤ n
within_push n spans s le within r p = elim (of_push r spans s p) [
  | inl q ↦ within r q
  | inr e ↦ (let P : Span → Type 0 = λ q. q.to ≤ n in subst P (sym e) le)
]

held_below : (n : ℕ) (spans : List Span) → ((s : Span) → IsIn s spans → s.to ≤ n) → (i : ℕ) → IsHeld spans i → i < n
held_below n spans within i h = let le = within h.0 h.1 in omega (arith, le, h.2.1)

-- The ranges share no number, so the lists of what stands there and is allowed, one behind the other, repeat nothing.
pub merged_listing : (t : Litmus) (items : List Clause) (n : ℕ) (spans : List Span) (s : Span) (xs ys : List GraphValue) → IsNumberedBy t n (At t) → s.to ≤ n → ((r : Span) → IsIn r spans → r.to ≤ n) → IsApart s spans
    → Lists (IsAmong t items spans) xs → AreThose (Allowed items) (executions_in t s.from s.to) ys → Lists (IsAmong t items (spans ++ s ∷ [])) (ys ++ xs)
merged_listing t items n spans s xs ys law le within apart l those =
    lists_same {P = λ x. (StandsIn t s x × Allowed items x) ⊎ IsAmong t items spans x} {Q = IsAmong t items (spans ++ s ∷ [])}
    (λ x h. elim h [
      | inl p ↦ ((p.0.0, held_push spans s p.0.0 (inl p.0.1), p.0.2), p.1)
      | inr q ↦ ((q.0.0, held_push spans s q.0.0 (inr q.0.1), q.0.2), q.1)
    ])
    (λ x h. elim (push_held spans s h.0.0 h.0.1) [
      | inl p ↦ inl ((h.0.0, p, h.0.2), h.1)
      | inr q ↦ inr ((h.0.0, q, h.0.2), h.1)
    ])
    (lists_append
    (λ x p q. (let below = held_below n spans within q.0.0 q.0.1 in
    let same : p.0.0 ≡ q.0.0 = law.once x p.0.0 q.0.0 (omega (arith, p.0.1.1, le)) below p.0.2 q.0.2 in
    let H : ℕ → Type 0 = λ i. IsHeld spans i in
    apart p.0.0 p.0.1 (subst H (sym same) q.0.1)))
    (lists_those (range_listed t n s law le) those) l)

-- Where they cover all numbers, they list what the model allows.
pub whole_listing : (t : Litmus) (items : List Clause) (n : ℕ) (spans : List Span) (xs : List GraphValue) → IsNumberedBy t n (At t) → ((r : Span) → IsIn r spans → r.to ≤ n) → IsCover n spans → Lists (IsAmong t items spans) xs → Lists (IsAllowed t items) xs
whole_listing t items n spans xs law within cover l =
    lists_same {P = IsAmong t items spans} {Q = IsAllowed t items}
    (λ x p. (let O : Option GraphValue → Type 0 = λ o. IfSome o (IsExecution t) in subst O p.0.2 (law.only p.0.0 (held_below n spans within p.0.0 p.0.1)), p.1))
    (λ x p. (let r = law.all x p.0 in ((r.0, cover r.0 r.1, r.2), p.1)))
    l

-- They are at most as many as there are numbers.
pub few_listed : (t : Litmus) (items : List Clause) (n : ℕ) (spans : List Span) (xs : List GraphValue) → ((r : Span) → IsIn r spans → r.to ≤ n) → Lists (IsAmong t items spans) xs → length xs ≤ n
few_listed t items n spans xs within l =
    let inside = no_longer xs (found (At t) n) l.once (λ x p. let a = l.only x p in found_in (At t) n a.0.0 x (held_below n spans within a.0.0 a.0.1) a.0.2) in
    omega (arith, inside, found_most (At t) n)

pub law_of : (t : Litmus) → IsNumberedBy t (test_size t) (At t)
law_of t = numbering t (test_size t) (sized t)
