-- What a view holds of other executions than its own, and how its own is shown.
use Rattle.events.specs.Cuts.{part_of, IsOfEvents}
use Rattle.events.specs.Executions.{GraphValue}
use Rattle.events.specs.Opened.{opened}
use Rattle.events.specs.declared.view.held.Held.{Held}
use Rattle.events.specs.declared.view.held.Held.TheVariants.{Own, Lent}
use Rattle.events.specs.declared.view.held.Placed.{Placed}
use Rattle.events.specs.declared.view.held.Placed.TheVariants as places
use Rattle.events.specs.declared.view.held.Shown.{Shown}
use Rattle.events.specs.declared.view.held.Shown.TheVariants.{Whole, Partly, Opened}
use Rattle.relations.specs.Relation.{Relation}
use Rattle.events.specs.Structures.{Sourced}

-- the execution, as it is shown
abbrev pub seen : Shown → GraphValue → GraphValue
seen Whole g = g
seen (Partly p) g = part_of g p
seen (Opened c) g = opened g c

-- it can be shown so
abbrev pub IsShowable : Shown → GraphValue → Type 0
IsShowable Whole g = Unit {0}
IsShowable (Partly p) g = IsOfEvents g p
IsShowable (Opened c) g = Unit {0}

abbrev pub held_value : Held → Sourced
held_value (Own b) = b.value
held_value (Lent r) = r.now

abbrev pub placed_value : Placed → Relation
placed_value (places.Own b) = b.value
placed_value (places.Lent r) = r.now
