use Rattle.std.proofs.Common.{List, ◌∷◌, [], ap, append_assoc}
use Rattle.events.specs.declared.event.Event.{Event}
use Rattle.c11_threads.specs.Runs.{next_read}
use Rattle.c11_threads.specs.Unrolled.{giving, reading, events_behind}
use Rattle.c11_threads.proofs.reading.Reading.way_on.Goals as goal

pub returns : goal.returns
returns c =
    let from = c.args.from.now in
    let self = c.args.self.now in
    let read = next_read from c.args.value in
    rw (c.give.ensures, c.next_read-2.ensures, c.in_ok-follow.ensures, c.next_read.ensures, c.in_ok-push.ensures, c.in_ok-end.ensures, c.with_value.ensures)
    (ap (λ (es : List Event). giving self.register read (record { events = es; registers = from.registers })) (append_assoc from.events (reading self.event c.args.value ∷ []) (events_behind self.behind read)))
