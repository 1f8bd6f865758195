-- The orders of the locations, one location after another.
use Rattle.std.proofs.Common.{◌≡◌, ℕ, zero, suc, ◌+◌, ◌/◌, ◌%◌, ◌<◌, ◌≤◌, List, [], ◌∷◌, ◌++◌, length, take, drop, get_or, set, add-one, sym, ◌∙◌, ap, arith}
use Rattle.std.proofs.lemmas.List.{take-append-drop, take_more_set, drop-set-lt}
use Rattle.events.specs.declared.event.EventId.{EventId}
use Rattle.events.specs.Executions.{ThreadRun}
use Rattle.listings.specs.Numbered.{digits}
use Rattle.listings.proofs.Numberings.{cons_head, cons_tail}
use Rattle.candidates.specs.Executions.{upto}
use Rattle.candidates.specs.Candidates.{count_orders, order_at}
use Rattle.candidates.proofs.Caps.{digits_step, digits_more, digits_end}

cons_nil : {X : Type 0} {x : X} {xs : List X} → x ∷ xs ≡ [] → ⊥
cons_nil e = cc

front_of : {X : Type 0} (xs : List X) (i : ℕ) (d x : X) (rest : List X) → drop i xs ≡ x ∷ rest → (i < length xs) × (get_or xs i d ≡ x) × (drop (suc i) xs ≡ rest)
front_of [] zero d x rest e = absurd (cons_nil (sym e))
front_of [] (suc i) d x rest e = absurd (cons_nil (sym e))
front_of (y ∷ xs) zero d x rest e = (omega arith, cons_head e, cons_tail e)
front_of (y ∷ xs) (suc i) d x rest e = let r = front_of xs i d x rest e in (omega (arith, r.0), r.1, r.2)

get_at : {X : Type 0} (xs : List X) (i : ℕ) (d x : X) (rest : List X) → drop i xs ≡ x ∷ rest → (i < length xs) × (get_or xs i d ≡ x) × (drop (i + 1) xs ≡ rest)
get_at xs i d x rest e = let r = front_of xs i d x rest e in (r.0, r.1, rw add-one r.2)

-- The orders of the locations before i are those by the number `to`; of both numbers `old` and `new` are left for the others.
pub record IsTurned (runs : List ThreadRun) (n to i : ℕ) (co : List (List EventId)) (old new : ℕ) : Type 0 where
  pub done : take i co ++ digits (count_orders runs) (order_at runs) (drop i (upto n)) new ≡ digits (count_orders runs) (order_at runs) (upto n) to
  pub left : drop i co ≡ digits (count_orders runs) (order_at runs) (drop i (upto n)) old

-- The order of the location i, which is still the old one.
pub old_order : (runs : List ThreadRun) (n to i : ℕ) (co : List (List EventId)) (old new : ℕ) (d : List EventId) → i < n → IsTurned runs n to i co old new → (i < length co) × (get_or co i d ≡ order_at runs i (old % count_orders runs i)) × (drop (i + 1) co ≡ digits (count_orders runs) (order_at runs) (drop (i + 1) (upto n)) (old / count_orders runs i))
old_order runs n to i co old new d l h = get_at co i d _ _ (h.left ∙ digits_step (count_orders runs) (order_at runs) n i old l)

pub turned_on : (runs : List ThreadRun) (n to i : ℕ) (co more : List (List EventId)) (old new count : ℕ) (order : List EventId) → i < n → count ≡ count_orders runs i → order ≡ order_at runs i (new % count) → more ≡ set co i order → IsTurned runs n to i co old new → IsTurned runs n to (i + 1) more (old / count) (new / count)
turned_on runs n to i co more old new count order l is made put h =
    let o = old_order runs n to i co old new order l h in
    let grown : take (i + 1) more ≡ take i co ++ order ∷ [] = ap (λ (xs : List (List EventId)). take (i + 1) xs) put ∙ take_more_set co i order o.0 in
    record {
      done = digits_more (count_orders runs) (order_at runs) n i new count (take i co) (take (i + 1) more) _ order is made l grown h.done;
      left = ap (λ (xs : List (List EventId)). drop (i + 1) xs) put ∙ drop-set-lt (i + 1) co i order (omega arith) ∙ o.2
          ∙ ap (λ k. digits (count_orders runs) (order_at runs) (drop (i + 1) (upto n)) (old / k)) (sym is);
    }

together : (runs : List ThreadRun) (n to i : ℕ) (co : List (List EventId)) (old new : ℕ) → digits (count_orders runs) (order_at runs) (drop i (upto n)) old ≡ digits (count_orders runs) (order_at runs) (drop i (upto n)) new → IsTurned runs n to i co old new → co ≡ digits (count_orders runs) (order_at runs) (upto n) to
together runs n to i co old new e h =
    sym (take-append-drop i co) ∙ ap (λ (xs : List (List EventId)). take i co ++ xs) (h.left ∙ e) ∙ h.done

-- Behind the last location all orders are turned.
pub turned_to_end : (runs : List ThreadRun) (n to i : ℕ) (co : List (List EventId)) (old new : ℕ) → n ≤ i → IsTurned runs n to i co old new → co ≡ digits (count_orders runs) (order_at runs) (upto n) to
turned_to_end runs n to i co old new l h =
    together runs n to i co old new (digits_end (count_orders runs) (order_at runs) n i old l ∙ sym (digits_end (count_orders runs) (order_at runs) n i new l)) h
