-- The orders of candidates with the same runs have the same writes.
use Rattle.std.proofs.Common.{◌≡◌, ℕ, zero, suc, ◌/◌, ◌%◌, ◌⊎◌, List, [], ◌∷◌, length, refl, sym, subst, inl, inr}
use Rattle.events.specs.declared.event.EventId.{EventId}
use Rattle.events.specs.Executions.{ThreadRun}
use Rattle.listings.specs.Lists.{IsIn, StandsAt}
use Rattle.listings.specs.Numbered.{digits, arrange}
use Rattle.listings.proofs.Arrangements.{put, insert-put}
use Rattle.candidates.specs.Executions.{later_writes, upto}
use Rattle.candidates.specs.Candidates.{candidate, count_co, count_orders, order_at}
use Rattle.candidates.specs.Blocks.{HasWritesOf}
use Rattle.candidates.proofs.Openings.{in_arrange}

has_put : (v w : EventId) (d : ℕ) (xs : List EventId) → (v ≡ w) ⊎ IsIn v xs → IsIn v (put w d xs)
has_put v w zero xs h = h
has_put v w (suc d) [] h = h
has_put v w (suc d) (x ∷ xs) h = elim h [
  | inl e ↦ inr (has_put v w d xs (inl e))
  | inr m ↦ elim m [ inl e ↦ inl e | inr n ↦ inr (has_put v w d xs (inr n)) ]
]

has_arrange : (ws : List EventId) (i : ℕ) (v : EventId) → IsIn v ws → IsIn v (arrange ws i)
has_arrange [] i v h = h
has_arrange (w ∷ ws) i v h =
    let n : ℕ = suc (length ws) in
    let P : List EventId → Type 0 = λ xs. IsIn v xs in
    subst P (sym (insert-put w (i % n) (arrange ws (i / n)))) (has_put v w (i % n) (arrange ws (i / n)) (elim h [ inl e ↦ inl e | inr m ↦ inr (has_arrange ws (i / n) v m) ]))

-- what stands at a place by one number, and by another
at_place : {A X : Type 0} (size : A → ℕ) (at : A → ℕ → X) (xs : List A) (i k l : ℕ) (o : X) → StandsAt (digits size at xs i) l o → (a : A) × (d : ℕ) × (e : ℕ) × (o ≡ at a d) × StandsAt (digits size at xs k) l (at a e)
at_place size at [] i k l o s = absurd s
at_place size at (a ∷ rest) i k zero o s = (a, i % size a, k % size a, s, refl)
at_place size at (a ∷ rest) i k (suc l) o s = at_place size at rest (i / size a) (k / size a) l o s

pub same_writes : (init : List ℕ) (runs : List ThreadRun) (i k : ℕ) → HasWritesOf (candidate init runs i) (candidate init runs k)
same_writes init runs i k = λ l o s. (
    let c : ℕ = count_co (length init) runs in
    let r = at_place (count_orders runs) (order_at runs) (upto (length init)) (i % c) (k % c) l o s in
    let ws : List EventId = later_writes runs r.0 in
    let in_other : (w : EventId) → IsIn w o → IsIn w (order_at runs r.0 r.2) = λ w h. (
    let P : List EventId → Type 0 = λ xs. IsIn w xs in
    let m : IsIn w (order_at runs r.0 r.1) = subst P r.3 h in
    elim m [ inl e ↦ inl e | inr n ↦ inr (has_arrange ws r.2 w (in_arrange ws r.1 w n)) ]) in
    (order_at runs r.0 r.2, r.4, in_other))
