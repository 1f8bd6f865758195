use Rattle.std.proofs.Common.{refl}
use Rattle.cat_syntax.specs.Reading.{element_at}
use Rattle.cat_syntax.proofs.reading.Reader.element.Goals as goal

pub returns : goal.returns
unfolding element_at
returns c = rw (c.in_ok-expression.ensures, c.in_ok-name.ensures) refl
