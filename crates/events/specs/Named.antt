-- The sets and relations that a cat model can use without binding them, over the events of an execution.
-- After Alglave, Maranget and Tautschnig, Herding cats, 2014, section 4; herd7 manual, on the C profile.
use Rattle.std.specs.Prelude.{◌≡◌, ℕ, suc, ◌+◌, ◌<◌, ◌≤◌, ◌⊎◌, List, [], ◌∷◌, ◌++◌, length, filter, sum_by, slice_index_or, IsTrue}
use Rattle.relations.specs.Events.{EventSet, Has}
use Rattle.listings.specs.Lists.{Lists, StandsAt, tabulate}
use Rattle.events.specs.declared.event.Access.{Access}
use Rattle.events.specs.declared.event.Access.TheVariants.{Write, Fence, ExRead, ExWrite}
use Rattle.events.specs.declared.event.Event.{Event}
use Rattle.events.specs.declared.event.EventId.{EventId}
use Rattle.events.specs.declared.event.EventId.TheVariants.{Initial, Own}
use Rattle.events.specs.declared.event.Order.{Order}
use Rattle.events.specs.declared.event.Order.TheVariants.{NoOrder, Na, Rlx, Acq, Rel, AcqRel, Sc}
use Rattle.events.specs.declared.named.SetName.{SetName}
use Rattle.events.specs.declared.named.SetName.TheVariants.{Writes, Reads, Fences, Memory, InitialWrites, Atomic, Plain, Relaxed, Acquire, Release, AcquireRelease, SeqCst, Exchanges}
use Rattle.events.specs.declared.named.RelName.{RelName}
use Rattle.events.specs.declared.named.RelName.TheVariants.{Po, Int, Ext, Loc, PoLoc, Rf, Co, Fr, Rfi, Coi, Fri, Rfe, Coe, Fre, Rmw, Data, Ctrl, Addr, Id}
use Rattle.events.specs.Executions.{GraphValue, ThreadRun, IsNamed, is_read, is_write, no_places, empty_run}

-- THE EVENTS AND THEIR NUMBERS

-- the names of the events of thread k, from place p on
abbrev pub names_from : ℕ → ℕ → List Event → List EventId
names_from k p [] = []
names_from k p (e ∷ es) = Own k p ∷ names_from k (suc p) es

-- the names of the events of threads, from thread k on
abbrev pub thread_names : ℕ → List ThreadRun → List EventId
thread_names k [] = []
thread_names k (run ∷ runs) = names_from k 0 run.events ++ thread_names (suc k) runs

-- The events by their numbers: the initial writes in the order of locations, then thread by thread in program order.
unfoldable pub event_names : GraphValue → List EventId
event_names g = tabulate (length g.init) Initial ++ thread_names 0 g.runs

-- how many events there are
abbrev pub event_count : GraphValue → ℕ
event_count g = length g.init + sum_by (λ run. length run.events) g.runs

-- event e has number i
abbrev pub IsNumber : GraphValue → ℕ → EventId → Type 0
IsNumber g i e = StandsAt (event_names g) i e

-- The law: the events of an execution have the numbers below its count, each one number.
abbrev pub Numbering : Type 0
Numbering = (g : GraphValue) → (length (event_names g) ≡ event_count g) × Lists (IsNamed g.init g.runs) (event_names g)

-- WHAT IS KNOWN OF AN EVENT

-- what is read where no event is so named
abbrev pub no_event : Event
no_event = record { thread = 0; access = Fence; loc = 0; value = 0; order = NoOrder; data_from = no_places; ctrl_from = no_places }

-- the event of thread k at place p
unfoldable pub event_at : GraphValue → ℕ → ℕ → Event
event_at g k p = slice_index_or (slice_index_or g.runs k empty_run).events p no_event

-- what it does
abbrev pub access_of : GraphValue → EventId → Access
access_of g (Initial x) = Write
access_of g (Own k p) = (event_at g k p).access

-- where
abbrev pub location_of : GraphValue → EventId → ℕ
location_of g (Initial x) = x
location_of g (Own k p) = (event_at g k p).loc

-- its memory order: an initial write has none
abbrev pub order_of : GraphValue → EventId → Order
order_of g (Initial x) = NoOrder
order_of g (Own k p) = (event_at g k p).order

-- the places of the reads whose values reached the value that it writes
abbrev pub data_of : GraphValue → EventId → EventSet
data_of g (Initial x) = no_places
data_of g (Own k p) = (event_at g k p).data_from

-- the places of the reads whose values reached the tests of the branches around it
abbrev pub control_of : GraphValue → EventId → EventSet
control_of g (Initial x) = no_places
control_of g (Own k p) = (event_at g k p).ctrl_from

abbrev pub IsRead : GraphValue → EventId → Type 0
IsRead g e = IsTrue (is_read (access_of g e))

abbrev pub IsWrite : GraphValue → EventId → Type 0
IsWrite g e = IsTrue (is_write (access_of g e))

-- it reads or writes memory
abbrev pub IsMemory : GraphValue → EventId → Type 0
IsMemory g e = IsRead g e ⊎ IsWrite g e

abbrev pub IsInitial : EventId → Type 0
IsInitial (Initial x) = Unit {0}
IsInitial (Own k p) = ⊥

-- it comes from an atomic call or a fence
abbrev pub IsOfCall : Order → Type 0
IsOfCall NoOrder = ⊥
IsOfCall Na = ⊥
IsOfCall Rlx = Unit {0}
IsOfCall Acq = Unit {0}
IsOfCall Rel = Unit {0}
IsOfCall AcqRel = Unit {0}
IsOfCall Sc = Unit {0}

-- THE SETS

-- event e of g is in the set of this name
abbrev pub InSet : GraphValue → SetName → EventId → Type 0
InSet g Writes e = IsWrite g e
InSet g Reads e = IsRead g e
InSet g Fences e = access_of g e ≡ Fence
InSet g Memory e = IsMemory g e
InSet g InitialWrites e = IsInitial e
InSet g Atomic e = IsMemory g e × IsOfCall (order_of g e)
InSet g Plain e = IsMemory g e × (order_of g e ≡ Na)
InSet g Relaxed e = order_of g e ≡ Rlx
InSet g Acquire e = order_of g e ≡ Acq
InSet g Release e = order_of g e ≡ Rel
InSet g AcquireRelease e = order_of g e ≡ AcqRel
InSet g SeqCst e = order_of g e ≡ Sc
InSet g Exchanges e = (access_of g e ≡ ExRead) ⊎ (access_of g e ≡ ExWrite)

-- THE RELATIONS

-- d comes before e in program order: they are of one thread
abbrev pub IsBefore : EventId → EventId → Type 0
IsBefore (Initial x) e = ⊥
IsBefore (Own k p) (Initial x) = ⊥
IsBefore (Own k p) (Own l q) = (k ≡ l) × (p < q)

-- they are of one thread, or both initial writes
abbrev pub IsInternal : EventId → EventId → Type 0
IsInternal (Initial x) (Initial y) = Unit {0}
IsInternal (Initial x) (Own l q) = ⊥
IsInternal (Own k p) (Initial y) = ⊥
IsInternal (Own k p) (Own l q) = k ≡ l

-- they read or write one location
abbrev pub IsAtOneLocation : GraphValue → EventId → EventId → Type 0
IsAtOneLocation g d e = IsMemory g d × IsMemory g e × (location_of g d ≡ location_of g e)

-- the reads by their numbers: rf gives the write of each in this order
unfoldable pub read_names : GraphValue → List EventId
read_names g = filter (λ e. is_read (access_of g e)) (event_names g)

-- r reads from w
abbrev pub ReadsFrom : GraphValue → EventId → EventId → Type 0
ReadsFrom g w r = (m : ℕ) × StandsAt (read_names g) m r × StandsAt g.rf m w

-- e stands in the order at place from or later
abbrev pub StandsFrom : List EventId → ℕ → EventId → Type 0
StandsFrom order from e = (b : ℕ) × (from ≤ b) × StandsAt order b e

-- d stands before e in the order
abbrev pub StandsBefore : List EventId → EventId → EventId → Type 0
StandsBefore order d e = (a : ℕ) × StandsAt order a d × StandsFrom order (a + 1) e

-- the coherence order of some location x has d before e
abbrev pub IsCoherenceBefore : GraphValue → EventId → EventId → Type 0
IsCoherenceBefore g d e = (x : ℕ) × (order : List EventId) × StandsAt g.co x order × StandsBefore order d e

-- r reads from a write before e in coherence: rf^-1 ; co
abbrev pub ReadsBefore : GraphValue → EventId → EventId → Type 0
ReadsBefore g r e = (w : EventId) × ReadsFrom g w r × IsCoherenceBefore g w e

-- d comes directly before e in program order
abbrev pub IsNext : EventId → EventId → Type 0
IsNext (Initial x) e = ⊥
IsNext (Own k p) (Initial y) = ⊥
IsNext (Own k p) (Own l q) = (k ≡ l) × (q ≡ suc p)

-- d is the read and e the write of one exchange, or of one addition
abbrev pub IsExchange : GraphValue → EventId → EventId → Type 0
IsExchange g d e = IsNext d e × (access_of g d ≡ ExRead) × (access_of g e ≡ ExWrite)

-- d and e are of one thread, and the place of d is among those that e depends on
abbrev pub IsDependency : EventId → EventId → EventSet → Type 0
IsDependency (Initial x) e places = ⊥
IsDependency (Own k p) (Initial y) places = ⊥
IsDependency (Own k p) (Own l q) places = (k ≡ l) × Has places p

-- the pair of events d and e of g is in the relation of this name
abbrev pub InRel : GraphValue → RelName → EventId → EventId → Type 0
InRel g Po d e = IsBefore d e
InRel g Int d e = IsInternal d e
InRel g Ext d e = ¬ IsInternal d e
InRel g Loc d e = IsAtOneLocation g d e
InRel g PoLoc d e = IsBefore d e × IsAtOneLocation g d e
InRel g Rf d e = ReadsFrom g d e
InRel g Co d e = IsCoherenceBefore g d e
InRel g Fr d e = ReadsBefore g d e
InRel g Rfi d e = ReadsFrom g d e × IsInternal d e
InRel g Coi d e = IsCoherenceBefore g d e × IsInternal d e
InRel g Fri d e = ReadsBefore g d e × IsInternal d e
InRel g Rfe d e = ReadsFrom g d e × (¬ IsInternal d e)
InRel g Coe d e = IsCoherenceBefore g d e × (¬ IsInternal d e)
InRel g Fre d e = ReadsBefore g d e × (¬ IsInternal d e)
InRel g Rmw d e = IsExchange g d e
InRel g Data d e = IsDependency d e (data_of g e)
InRel g Ctrl d e = IsDependency d e (control_of g e)
InRel g Addr d e = ⊥
InRel g Id d e = d ≡ e

-- BY NUMBERS

-- the event with number i is in the set of this name
unfoldable pub NamedSet : GraphValue → SetName → ℕ → Type 0
NamedSet g name i = (e : EventId) × IsNumber g i e × InSet g name e

-- the pair of the events with numbers i and j is in the relation of this name
unfoldable pub NamedRel : GraphValue → RelName → ℕ → ℕ → Type 0
NamedRel g name i j = (d : EventId) × (e : EventId) × IsNumber g i d × IsNumber g j e × InRel g name d e
