use Rattle.std.proofs.Common.{sym, arith}
use Rattle.std.proofs.lemmas.List.{length-map}
use Rattle.std.specs.Arc.{arc_value}
use Rattle.book.proofs.kept.Book.apply.Goals as goal

pub returns-then-place-self-clause-only : goal.returns-then-place-self-clause-only
returns-then-place-self-clause-only c = λ _.
    rw (sym c.self.view_is) (omega (arith, c.self.invariant.within, length-map c.self.inside.journal.items arc_value, c.len-place.ensures, c.if-place-self.true))

pub returns-in-Ok-clause-entry : goal.returns-in-Ok-clause-entry
returns-in-Ok-clause-entry c = (
  rw (sym c.self.view_is) (omega (arith, c.in-Ok.ensures.entry.0, c.len-place.ensures, length-map c.self.inside.journal.items arc_value)),
  c.in-Ok.ensures.entry.1,
  c.in-Ok.ensures.entry.2,
)

pub returns-in-Ok-clause-room : goal.returns-in-Ok-clause-room
returns-in-Ok-clause-room c = rw (sym c.self.view_is) (omega (arith, c.if-place-self.false, c.len-place.ensures, length-map c.self.inside.journal.items arc_value))
