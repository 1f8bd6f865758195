use Rattle.std.proofs.Common.{refl}
use Rattle.cat_syntax.specs.Reading.{group_at}
use Rattle.cat_syntax.proofs.reading.Reader.group.Goals as goal

pub returns-in_ok-bindings : goal.returns-in_ok-bindings
unfolding group_at
returns-in_ok-bindings c = rw (c.if-take.ensures, c.in_ok-bindings.ensures) refl

pub returns-in_ok-definitions : goal.returns-in_ok-definitions
unfolding group_at
returns-in_ok-definitions c = rw (c.if-take.ensures.0, ← c.if-take.ensures.1, c.in_ok-definitions.ensures) refl
