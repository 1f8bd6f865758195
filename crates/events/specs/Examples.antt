-- The words at work on store buffering: each thread writes 1 to its own location and reads 0 from the other's
-- initial write.
use Rattle.std.proofs.Common.{◌≡◌, ℕ, [], ◌∷◌, refl, arith}
use Rattle.events.specs.declared.event.Access.{Access}
use Rattle.events.specs.declared.event.Access.TheVariants.{Read, Write}
use Rattle.events.specs.declared.event.Event.{Event}
use Rattle.events.specs.declared.event.EventId.TheVariants.{Initial, Own}
use Rattle.events.specs.declared.event.Order.TheVariants.{Rlx}
use Rattle.events.specs.declared.named.SetName.TheVariants.{Writes}
use Rattle.events.specs.declared.named.RelName.TheVariants.{Po, Int, Rf, Fr}
use Rattle.events.specs.Executions.{GraphValue, no_places}
use Rattle.events.specs.Named.{event_names, read_names, event_at, NamedSet, NamedRel}

-- event of thread k at location x, with value v, relaxed
abbrev pub relaxed : ℕ → Access → ℕ → ℕ → Event
relaxed k a x v = record { thread = k; access = a; loc = x; value = v; order = Rlx; data_from = no_places; ctrl_from = no_places }

abbrev pub store_buffering : GraphValue
store_buffering = record {
  init = 0 ∷ 0 ∷ [];
  runs = record { events = relaxed 0 Write 0 1 ∷ relaxed 0 Read 1 0 ∷ []; registers = 0 ∷ [] } ∷ record { events = relaxed 1 Write 1 1 ∷ relaxed 1 Read 0 0 ∷ []; registers = 0 ∷ [] } ∷ [];
  rf = Initial 1 ∷ Initial 0 ∷ [];
  co = (Initial 0 ∷ Own 0 0 ∷ []) ∷ (Initial 1 ∷ Own 1 0 ∷ []) ∷ [];
}

pub numbers : event_names store_buffering ≡ Initial 0 ∷ Initial 1 ∷ Own 0 0 ∷ Own 0 1 ∷ Own 1 0 ∷ Own 1 1 ∷ []
unfolding event_names
numbers = refl

pub initial_writes_are_writes : NamedSet store_buffering Writes 1
unfolding NamedSet event_names
initial_writes_are_writes = (Initial 1, refl, refl)

pub initial_writes_are_internal : NamedRel store_buffering Int 0 1
unfolding NamedRel event_names
initial_writes_are_internal = (Initial 0, Initial 1, refl, refl, tt)

pub in_program_order : NamedRel store_buffering Po 2 3
unfolding NamedRel event_names
in_program_order = (Own 0 0, Own 0 1, refl, refl, (refl, omega arith))

pub from_the_initial_write : NamedRel store_buffering Rf 1 3
unfolding NamedRel event_names read_names event_at
from_the_initial_write = (Initial 1, Own 0 1, refl, refl, (0, refl, refl))

-- the read of P0 comes before the write of P1 that it didn't see
pub before_the_other_write : NamedRel store_buffering Fr 3 4
unfolding NamedRel event_names read_names event_at
before_the_other_write =
    (Own 0 1, Own 1 0, refl, refl, (Initial 1, (0, refl, refl), (1, Initial 1 ∷ Own 1 0 ∷ [], refl, (0, refl, (1, omega arith, refl)))))
