-- What is told of an event in a drawing.
use Rattle.std.specs.Prelude.{ℕ, List, [], ◌++◌, codes, decimal, slice_index_or}
use Rattle.events.specs.declared.event.Access.{Access}
use Rattle.events.specs.declared.event.Access.TheVariants.{Read, Write, Fence, ExRead, ExWrite}
use Rattle.events.specs.declared.event.Event.{Event}
use Rattle.events.specs.declared.event.EventId.{EventId}
use Rattle.events.specs.declared.event.EventId.TheVariants.{Initial, Own}
use Rattle.events.specs.declared.event.Order.{Order}
use Rattle.events.specs.declared.event.Order.TheVariants.{NoOrder, Na, Rlx, Acq, Rel, AcqRel, Sc}
use Rattle.events.specs.Named.{event_at}
use Rattle.drawing.specs.Naming.{SceneValue, number_of, name_of}

-- the name of an event
abbrev pub called : SceneValue → EventId → List ℕ
called s e = name_of s.graph (number_of s.graph e)

abbrev pub location_text : SceneValue → ℕ → List ℕ
location_text s x = slice_index_or s.locations x []

abbrev pub order_text : Order → List ℕ
order_text NoOrder = []
order_text Na = codes " na"
order_text Rlx = codes " rlx"
order_text Acq = codes " acq"
order_text Rel = codes " rel"
order_text AcqRel = codes " acq_rel"
order_text Sc = codes " sc"

-- `x=1 rlx`
abbrev pub content_text : SceneValue → Event → List ℕ
content_text s e = location_text s e.loc ++ codes "=" ++ decimal e.value ++ order_text e.order

abbrev pub access_text : SceneValue → Access → Event → List ℕ
access_text s Read e = codes "R " ++ content_text s e
access_text s ExRead e = codes "R " ++ content_text s e
access_text s Write e = codes "W " ++ content_text s e
access_text s ExWrite e = codes "W " ++ content_text s e
access_text s Fence e = codes "F" ++ order_text e.order

abbrev pub initial_text : SceneValue → ℕ → List ℕ
initial_text s x = codes "init " ++ location_text s x ++ codes "=" ++ decimal (slice_index_or s.graph.init x 0)

-- `R x=1 rlx`, `F sc` or `init x=0`
unfoldable pub event_text : SceneValue → EventId → List ℕ
event_text s (Initial x) = initial_text s x
event_text s (Own k p) = access_text s (event_at s.graph k p).access (event_at s.graph k p)
