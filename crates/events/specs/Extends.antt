-- Executions that go on from what is known of them: of a partial one only the sources of some reads are known, and the
-- order of some writes.
use Rattle.std.specs.Prelude.{◌≡◌, ◌↔◌, ℕ, ◌⊎◌, List, [], ◌∷◌, All}
use Rattle.listings.specs.Lists.{IsIn, StandsAt}
use Rattle.events.specs.declared.event.EventId.{EventId}
use Rattle.events.specs.declared.named.SetName.{SetName}
use Rattle.events.specs.declared.named.RelName.{RelName}
use Rattle.events.specs.declared.named.Basis.TheVariants.{Runs}
use Rattle.events.specs.Bases.{basis_of}
use Rattle.events.specs.Executions.{GraphValue, IsGraph, IsNamed}
use Rattle.events.specs.Named.{NamedSet, NamedRel}

-- e is no event of g, and stands in none of its orders
abbrev pub IsNobody : GraphValue → EventId → Type 0
IsNobody g e = (¬ IsNamed g.init g.runs e) × ((order : List EventId) → IsIn order g.co → ¬ IsIn e order)

-- h has each source that g has: the same at the same place, unless nobody stands there in g
abbrev pub AreSourcesOf : GraphValue → GraphValue → Type 0
AreSourcesOf g h = (k : ℕ) (e : EventId) → StandsAt g.rf k e → StandsAt h.rf k e ⊎ IsNobody g e

-- xs are some of ys, in their sequence
abbrev pub IsPart : List EventId → List EventId → Type 0
IsPart [] ys = Unit {0}
IsPart (x ∷ xs) [] = ⊥
IsPart (x ∷ xs) (y ∷ ys) = ((x ≡ y) × IsPart xs ys) ⊎ IsPart (x ∷ xs) ys

-- xs are some of one of these orders, in their sequence
abbrev pub IsPartOfOne : List (List EventId) → List EventId → Type 0
IsPartOfOne orders xs = (x : ℕ) × (ys : List EventId) × StandsAt orders x ys × IsPart xs ys

-- h has what g has, and perhaps more: sources of further reads, and what else its orders tell. What is known of one order can stand in
-- g as several: that the initial write is the first, as a pair with each write whose place is open.
pub record Extends (g h : GraphValue) : Type 0 where
  pub init : h.init ≡ g.init
  pub runs : h.runs ≡ g.runs
  pub rf : AreSourcesOf g h
  pub co : All (IsPartOfOne h.co) g.co

-- The law: the sets stay the same.
abbrev pub SetsStay : Type 0
SetsStay = (g h : GraphValue) → Extends g h → (name : SetName) (i : ℕ) → NamedSet g name i ↔ NamedSet h name i

-- The law: the relations that rest on the runs stay the same.
abbrev pub RelationsStay : Type 0
RelationsStay = (g h : GraphValue) → Extends g h → (name : RelName) → basis_of name ≡ Runs → (i j : ℕ) → NamedRel g name i j ↔ NamedRel h name i j

-- The law: no relation loses a pair.
abbrev pub RelationsGrow : Type 0
RelationsGrow = (g h : GraphValue) → Extends g h → (name : RelName) (i j : ℕ) → NamedRel g name i j → NamedRel h name i j

-- The law: what a graph extends is a graph, if its sources are events.
abbrev pub PartsAreGraphs : Type 0
PartsAreGraphs = (g h : GraphValue) → Extends g h → All (IsNamed g.init g.runs) g.rf → IsGraph h → IsGraph g
