use Rattle.std.proofs.Common.{refl}
use Rattle.cat_syntax.specs.Reading.{item_at}
use Rattle.cat_syntax.proofs.reading.Reader.item.Goals as goal

pub returns-in_ok-names : goal.returns-in_ok-names
unfolding item_at
returns-in_ok-names c =
    rw (c.if-take.ensures.0, ← c.if-take.ensures.1, c.if-take-2.ensures.0, ← c.if-take-2.ensures.1, c.if-take-3.ensures.0, ← c.if-take-3.ensures.1, c.if-take-4.ensures, c.in_ok-names.ensures) refl

pub returns-in_ok-check : goal.returns-in_ok-check
unfolding item_at
returns-in_ok-check c =
    rw (c.if-take.ensures.0, ← c.if-take.ensures.1, c.if-take-2.ensures.0, ← c.if-take-2.ensures.1, c.if-take-3.ensures.0, ← c.if-take-3.ensures.1, c.if-take-4.ensures.0, ← c.if-take-4.ensures.1, c.in_ok-check.ensures) refl

pub returns-in_ok-elements : goal.returns-in_ok-elements
unfolding item_at
returns-in_ok-elements c =
    rw (c.if-take.ensures.0, ← c.if-take.ensures.1, c.if-take-2.ensures.0, ← c.if-take-2.ensures.1, c.if-take-3.ensures, c.in_ok-elements.ensures) refl
