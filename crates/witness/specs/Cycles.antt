-- Cycles of a relation between events.
use Rattle.std.specs.Prelude.{◌≡◌, ℕ, suc, ◌≤◌, List, [], ◌∷◌, length}
use Rattle.listings.specs.Lists.{NoRepeats}
use Rattle.relations.specs.Relation.{Relation, In}

-- P relates a to the first of the events, each of them to the next, and the last to b
abbrev pub Leads : (ℕ → ℕ → Type 0) → ℕ → List ℕ → ℕ → Type 0
Leads P a [] b = P a b
Leads P a (m ∷ ms) b = P a m × Leads P m ms b

-- each event is related to the next, and the last to the first
abbrev pub IsCycle : (ℕ → ℕ → Type 0) → List ℕ → Type 0
IsCycle P [] = ⊥
IsCycle P (a ∷ ms) = Leads P a ms a

-- a cycle with no event twice, and none is shorter
pub record IsShortestCycle (P : ℕ → ℕ → Type 0) (events : List ℕ) : Type 0 where
  pub cycle : IsCycle P events
  pub once : NoRepeats events
  pub shortest : (others : List ℕ) → IsCycle P others → length events ≤ length others

-- The relation q has the pairs that r leads between over k events. No contract of another crate rests on this, nor on what follows.
pub record IsPower (r : Relation) (k : ℕ) (q : Relation) : Type 0 where
  pub count : q.count ≡ r.count
  pub only : (i j : ℕ) → In q i j → (ms : List ℕ) × (length ms ≡ k) × Leads (In r) i ms j
  pub all : (i j : ℕ) (ms : List ℕ) → length ms ≡ k → Leads (In r) i ms j → In q i j

-- so it is of each, the first over k events, the next over one more, and so on
abbrev pub ArePowers : Relation → ℕ → List Relation → Type 0
ArePowers r k [] = Unit {0}
ArePowers r k (q ∷ qs) = IsPower r k q × ArePowers r (suc k) qs
