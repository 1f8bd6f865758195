-- The arrows of a drawing: of po and co the steps from one event to the next alone.
use Rattle.std.specs.Prelude.{List, [], ◌∷◌, map, Bool, false, ◌==◌, ◌&&◌, filter, zip, flat_map}
use Rattle.events.specs.contracts.event.AccessPartialEq.TheImpl.{ghosts as access_equality}
use Rattle.events.specs.contracts.event.EventIdPartialEq.TheImpl.{ghosts as event_equality}
use Rattle.events.specs.declared.event.Access.TheVariants.{ExRead, ExWrite}
use Rattle.events.specs.declared.event.EventId.{EventId}
use Rattle.events.specs.declared.event.EventId.TheVariants.{Initial, Own}
use Rattle.events.specs.Executions.{GraphValue}
use Rattle.events.specs.Named.{event_names, read_names, access_of}
use Rattle.drawing.specs.declared.arrows.Arrow.{Arrow}
use Rattle.drawing.specs.declared.arrows.Relation.{Relation}
use Rattle.drawing.specs.declared.arrows.Relation.TheVariants.{Po, Rf, Co, Fr, Rmw}

abbrev pub arrow : EventId → EventId → Arrow
arrow d e = record { from = d; to = e }

-- from d to the first of these events, from that to the second, and so on
abbrev pub links : EventId → List EventId → List Arrow
links d [] = []
links d (e ∷ es) = arrow d e ∷ links e es

-- from each event to the one behind it
abbrev pub steps : List EventId → List Arrow
steps [] = []
steps (d ∷ es) = links d es

abbrev pub are_of_one_thread : EventId → EventId → Bool
are_of_one_thread (Own k p) (Own l q) = k == l
are_of_one_thread (Own k p) (Initial y) = false
are_of_one_thread (Initial x) e = false

abbrev pub is_within_thread : Arrow → Bool
is_within_thread a = are_of_one_thread a.from a.to

-- from the read to the write of an exchange, or of an addition
abbrev pub is_exchange : GraphValue → Arrow → Bool
is_exchange g a = access_equality.eq (access_of g a.from) ExRead && access_equality.eq (access_of g a.to) ExWrite

abbrev pub po_arrows : GraphValue → List Arrow
po_arrows g = filter is_within_thread (steps (event_names g))

-- from the write that each read reads from
abbrev pub rf_arrows : GraphValue → List Arrow
rf_arrows g = map (λ p. arrow p.0 p.1) (zip g.rf (read_names g))

abbrev pub co_arrows : GraphValue → List Arrow
co_arrows g = flat_map steps g.co

-- Of an arrow of rf: from its read to the write that comes next in co after its write.
abbrev pub overtaken : List Arrow → Arrow → List Arrow
overtaken co a = map (λ b. arrow a.to b.to) (filter (λ b. event_equality.eq b.from a.from) co)

abbrev pub fr_arrows : GraphValue → List Arrow
fr_arrows g = flat_map (overtaken (co_arrows g)) (rf_arrows g)

abbrev pub rmw_arrows : GraphValue → List Arrow
rmw_arrows g = filter (is_exchange g) (po_arrows g)

abbrev pub arrows_of : GraphValue → Relation → List Arrow
arrows_of g Po = po_arrows g
arrows_of g Rf = rf_arrows g
arrows_of g Co = co_arrows g
arrows_of g Fr = fr_arrows g
arrows_of g Rmw = rmw_arrows g
