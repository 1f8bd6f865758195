-- The definitions at work on store buffering, where each thread writes 1 to its own location and reads 0 from the other's
-- initial write. Its numbers: 0 and 1 the initial writes of x and y, 2 and 3 the events of P0, 4 and 5 those of P1.
use Rattle.std.proofs.Common.{◌≡◌, [], ◌∷◌, refl}
use Rattle.std.specs.Fmt.{digits}
use Rattle.std.specs.Prelude.{codes}
use Rattle.events.specs.declared.event.EventId.TheVariants.{Initial, Own}
use Rattle.events.specs.Examples.{store_buffering}
use Rattle.events.specs.Named.{event_names, event_at, read_names}
use Rattle.drawing.specs.declared.arrows.Relation.TheVariants.{Po, Rf, Fr, Rmw}
use Rattle.drawing.specs.declared.group.Group.TheVariants.{InitialWrites, Threads}
use Rattle.drawing.specs.Arrows.{arrow, arrows_of}
use Rattle.drawing.specs.Naming.{SceneValue, letters, name_of, number_of, event_of}
use Rattle.drawing.specs.Telling.{event_text}
use Rattle.drawing.specs.Texts.{event_lines, event_line, pair_text, relation_line}
use Rattle.drawing.specs.Dots.{quoted, arrow_line, look}

abbrev pub scene : SceneValue
scene = record { graph = store_buffering; locations = codes "x" ∷ codes "y" ∷ [] }

pub first : letters 0 ≡ codes "a"
first = refl

pub behind_z : letters 26 ≡ codes "aa"
behind_z = refl

-- of 64 events the last
pub most : letters 63 ≡ codes "bl"
most = refl

-- the initial write of x comes behind the four events of the threads
pub initial_last : name_of store_buffering 0 ≡ codes "e"
unfolding name_of event_names
initial_last = refl

pub from_reads : arrows_of store_buffering Fr ≡ arrow (Own 0 1) (Own 1 0) ∷ arrow (Own 1 1) (Own 0 0) ∷ []
unfolding event_names read_names event_at
from_reads = refl

pub program_order : arrows_of store_buffering Po ≡ arrow (Own 0 0) (Own 0 1) ∷ arrow (Own 1 0) (Own 1 1) ∷ []
unfolding event_names
program_order = refl

pub a_write : event_text scene (Own 0 0) ≡ codes "W x=1 rlx"
unfolding digits event_at event_text
a_write = refl

pub an_initial_write : event_text scene (Initial 1) ≡ codes "init y=0"
unfolding digits event_text
an_initial_write = refl

pub no_exchange : relation_line scene Rmw ≡ []
unfolding event_names event_at
no_exchange = refl

pub reads_from : relation_line scene Rf ≡ codes "rf: f->b e->d\n"
unfolding event_names read_names event_at pair_text name_of number_of
reads_from = refl

pub events_of_threads : event_lines scene Threads ≡ codes "a: P0 W x=1 rlx\nb: P0 R y=0 rlx\nc: P1 W y=1 rlx\nd: P1 R x=0 rlx\n"
unfolding digits event_names event_at event_line event_text name_of number_of
events_of_threads = refl

pub initial_writes : event_lines scene InitialWrites ≡ codes "e: init x=0\nf: init y=0\n"
unfolding digits event_names event_line event_text name_of number_of
initial_writes = refl

pub in_quotes : quoted (codes "a\\\"&") ≡ codes "a\\\\\\\"&amp;"
in_quotes = refl

-- from P1 to P0, which tells nothing of where they stand
pub across : arrow_line scene (look Fr) 5 2 ≡ codes "  d -> a [label=\" fr \", color=\"darkgreen\", fontcolor=\"darkgreen\", style=dashed, arrowhead=empty, constraint=false]\n"
unfolding arrow_line event_names name_of event_of
across = refl
