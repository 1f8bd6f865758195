-- What tests of events tell.
use Rattle.std.proofs.Common.{◌≡◌, ◌≢◌, ◌↔◌, ℕ, Bool, false, IsTrue, eqb, rules}
use Rattle.std.proofs.lemmas.Bool.{false≢true}
use Rattle.std.proofs.lemmas.Bool.Decides.{Decides-eqb}
use Rattle.std.specs.Bool.{Decides}
use Rattle.events.specs.declared.event.Access.{Access}
use Rattle.events.specs.declared.event.Order.{Order}
use Rattle.events.specs.contracts.event.AccessPartialEq.TheImpl.{ghosts as access_equality}
use Rattle.events.specs.contracts.event.OrderPartialEq.TheImpl.{ghosts as order_equality}

pub access_exact : (a b : Access) → Decides (access_equality.eq a b) (a ≡ b)
access_exact a b = search rules

pub access_told : (a v b : Access) (r : Bool) → r ≡ access_equality.eq a b → a ≡ v → IsTrue r ↔ (v ≡ b)
access_told a v b r e is = rw (e, is) (access_exact v b)

pub order_exact : (a b : Order) → Decides (order_equality.eq a b) (a ≡ b)
order_exact a b = search rules

pub order_told : (a v b : Order) (r : Bool) → r ≡ order_equality.eq a b → a ≡ v → IsTrue r ↔ (v ≡ b)
order_told a v b r e is = rw (e, is) (order_exact v b)

pub same_told : (r s : Bool) → r ≡ s → IsTrue r ↔ IsTrue s
same_told r s e = rw e (λ h. h, λ h. h)

pub nothing_told : IsTrue false ↔ ⊥
nothing_told = (λ h. absurd (false≢true h), λ h. absurd h)

-- two numbers that are not the same
pub apart_told : (k l : ℕ) (P : Type 0) → k ≢ l → IsTrue (eqb k l) ↔ (k ≡ l) × P
apart_told k l P n = (λ h. absurd (n ((Decides-eqb k l).0 h)), λ h. absurd (n h.0))
