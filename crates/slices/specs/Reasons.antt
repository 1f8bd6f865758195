-- What an execution may have that no execution with its events has, if a model allows it.
use Rattle.std.specs.Prelude.{◌≡◌, ◌≢◌, ◌⊎◌, ℕ, ◌<◌, List, [], ◌∷◌}
use Rattle.listings.specs.Lists.{IsIn, StandsAt}
use Rattle.cat_eval.specs.Judging.{Allowed}
use Rattle.cat_tree.specs.Tree.{Clause}
use Rattle.events.specs.Cuts.{cut_down}
use Rattle.events.specs.declared.cut.Cut.{Cut}
use Rattle.events.specs.declared.event.EventId.{EventId}
use Rattle.events.specs.declared.event.EventId.TheVariants.{Initial}
use Rattle.events.specs.Executions.{GraphValue}
use Rattle.events.specs.Extends.{IsPart, IsPartOfOne}
use Rattle.events.specs.Structures.{Structure, structure_of}
use Rattle.slices.specs.declared.pair.Pair.{Pair}
use Rattle.slices.specs.declared.rivals.Exchange.{Exchange}
use Rattle.slices.specs.declared.rivals.Rivals.{Rivals}
use Rattle.slices.specs.declared.reason.Reason.{Reason}
use Rattle.slices.specs.declared.reason.Reason.TheVariants as reasons

-- LITTLE OF AN EXECUTION

-- The reads have these sources, except where the initial write of location 64 stands, which no execution has.
abbrev pub HasSources : List EventId → GraphValue → Type 0
HasSources sources x = (k : ℕ) (w : EventId) → StandsAt sources k w → StandsAt x.rf k w ⊎ (w ≡ Initial 64)

-- A model of these items allows no execution of this structure that has these sources and this order of some writes.
abbrev pub IsRefuted : List Clause → Structure → List EventId → List EventId → Type 0
IsRefuted items s sources order = (x : GraphValue) → structure_of x ≡ s → HasSources sources x → IsPartOfOne x.co order → ¬ Allowed items x

-- TWO WRITES IN ONE ORDER

-- the first of the pair stands somewhere before the second in this order
abbrev pub StandsSo : Pair → List EventId → Type 0
StandsSo p order = IsPart (p.first ∷ p.second ∷ []) order

-- The execution has the pair so, in the order of the pair's location.
abbrev pub HasPair : Pair → GraphValue → Type 0
HasPair p x = (order : List EventId) × StandsAt x.co p.location order × StandsSo p order

-- A model of these items allows no execution of this structure that has the pair so, whichever order it stands in.
abbrev pub IsMisplaced : List Clause → Structure → Pair → Type 0
IsMisplaced items s p = (x : GraphValue) → structure_of x ≡ s → IsPartOfOne x.co (p.first ∷ p.second ∷ []) → ¬ Allowed items x

-- TWO EXCHANGES THAT READ FROM ONE WRITE

-- the three writes stand in the order of the location
abbrev pub HasOrder : Rivals → GraphValue → Type 0
HasOrder r x = (order : List EventId) × StandsAt x.co r.first.location order × IsIn r.source order × IsIn r.first.write order × IsIn r.second.write order

-- both read from the source
abbrev pub HaveOneSource : Rivals → GraphValue → Type 0
HaveOneSource r x = StandsAt x.rf r.first.read r.source × StandsAt x.rf r.second.read r.source × HasOrder r x

abbrev pub AreApart : Rivals → Type 0
AreApart r = (r.source ≢ r.first.write) × (r.source ≢ r.second.write) × (r.first.write ≢ r.second.write)

-- A model of these items allows no execution of this structure in which the exchange reads from this write and these stand in this order.
abbrev pub IsNoReading : List Clause → Structure → Exchange → EventId → List EventId → Type 0
IsNoReading items s e w order = (x : GraphValue) → structure_of x ≡ s → StandsAt x.rf e.read w → IsPartOfOne x.co order → ¬ Allowed items x

-- It allows none in which the exchange reads from the source, and its own write stands behind that and the other, or before it.
abbrev pub ComesLate : List Clause → Structure → Exchange → EventId → EventId → Type 0
ComesLate items s e source other = IsNoReading items s e source (source ∷ other ∷ e.write ∷ []) × IsNoReading items s e source (e.write ∷ source ∷ [])

-- A model of these items allows no execution of this structure in which both read from the source.
abbrev pub AreRivals : List Clause → Structure → Rivals → Type 0
AreRivals items s r = (x : GraphValue) → structure_of x ≡ s → HaveOneSource r x → ¬ Allowed items x

-- EITHER

abbrev pub HasAt : Reason → GraphValue → Type 0
HasAt (reasons.Pair p) x = HasPair p x
HasAt (reasons.Rivals r) x = HaveOneSource r x

-- It can be told by what is known of an execution.
abbrev pub IsKnown : Reason → Cut → Type 0
IsKnown (reasons.Pair p) c = (x : GraphValue) → HasPair p x → IsPartOfOne (cut_down x c).co (p.first ∷ p.second ∷ [])
IsKnown (reasons.Rivals r) c = (r.first.read < c.reads) × (r.second.read < c.reads)

abbrev pub IsFatal : List Clause → Structure → Reason → Type 0
IsFatal items s (reasons.Pair p) = IsMisplaced items s p
IsFatal items s (reasons.Rivals r) = AreRivals items s r
