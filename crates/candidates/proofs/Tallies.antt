-- A numbering, read number by number, lists the executions.
use Rattle.std.proofs.Common.{◌≡◌, ℕ, zero, suc, ◌<◌, ◌⊎◌, Option, None, Some, refl, sym, ◌∙◌, ap, subst, inl, inr, arith}
use Rattle.std.specs.Prelude.{IfSome}
use Rattle.std.proofs.lemmas.Bool.{cases_lt}
use Rattle.events.specs.Executions.{GraphValue}
use Rattle.listings.specs.Lists.{IsIn, NoRepeats, Lists}
use Rattle.listings.proofs.Listings.{in_append, in_left, in_right, once_append}
use Rattle.litmus_tree.specs.Tree.{Litmus}
use Rattle.candidates.specs.Executions.{IsExecution}
use Rattle.candidates.specs.Candidates.{At, IsNumberedBy, found, some_of, Counting}
use Rattle.candidates.proofs.Law.{numbering}

in_some : (o : Option GraphValue) (x : GraphValue) → IsIn x (some_of o) → o ≡ Some x
in_some None x h = absurd h
in_some (Some y) x h = elim h [ inl e ↦ ap (λ (z : GraphValue). Some z) (sym e) | inr n ↦ absurd n ]

some_in : (o : Option GraphValue) (x : GraphValue) → o ≡ Some x → IsIn x (some_of o)
some_in o x e = let P : Option GraphValue → Type 0 = λ p. IsIn x (some_of p) in subst P (sym e) (inl refl)

once_some : (o : Option GraphValue) → NoRepeats (some_of o)
once_some None = tt
once_some (Some y) = (λ h. h, tt)

pub in_found : (at : ℕ → Option GraphValue) (n : ℕ) (x : GraphValue) → IsIn x (found at n) → (i : ℕ) × (i < n) × (at i ≡ Some x)
in_found at zero x h = absurd h
in_found at (suc n) x h = elim (in_append (found at n) (some_of (at n)) x h) [
  | inl a ↦ (let r = in_found at n x a in (r.0, omega (arith, r.1), r.2))
  | inr b ↦ (n, omega arith, in_some (at n) x b)
]

last : (i n : ℕ) → i < suc n → (i < n) ⊎ (i ≡ n)
last i n l = elim (cases_lt i n) [ inl k ↦ inl k | inr k ↦ inr (omega (arith, l, k)) ]

pub found_in : (at : ℕ → Option GraphValue) (n i : ℕ) (x : GraphValue) → i < n → at i ≡ Some x → IsIn x (found at n)
found_in at zero i x l e = absurd (omega (arith, l))
found_in at (suc n) i x l e = elim (last i n l) [
  | inl k ↦ in_left (found at n) (some_of (at n)) x (found_in at n i x k e)
  | inr k ↦ in_right (found at n) (some_of (at n)) x (some_in (at n) x (ap at (sym k) ∙ e))
]

pub once_found : (at : ℕ → Option GraphValue) (n : ℕ) → ((x : GraphValue) (i j : ℕ) → i < n → j < n → at i ≡ Some x → at j ≡ Some x → i ≡ j) → NoRepeats (found at n)
once_found at zero once = tt
once_found at (suc n) once =
    once_append (found at n) (some_of (at n)) (once_found at n (λ x i j li lj. once x i j (omega (arith, li)) (omega (arith, lj)))) (once_some (at n))
    (λ x a b. let r = in_found at n x a in
    let e : r.0 ≡ n = once x r.0 n (omega (arith, r.1)) (omega arith) r.2 (in_some (at n) x b) in
    absurd (omega (arith, e, r.1)))

listing : (t : Litmus) (n : ℕ) (at : ℕ → Option GraphValue) → IsNumberedBy t n at → Lists (IsExecution t) (found at n)
listing t n at law = record {
  once = once_found at n law.once;
  only = λ x h. (let r = in_found at n x h in
      let P : Option GraphValue → Type 0 = λ o. IfSome o (IsExecution t) in
      subst P r.2 (law.only r.0 r.1));
  all = λ x e. (let r = law.all x e in found_in at n r.0 x r.1 r.2);
}

pub counting : Counting
counting t n size = listing t n (At t) (numbering t n size)
