use Rattle.std.proofs.Common.{refl}
use Rattle.cat_syntax.specs.Reading.{definition_at}
use Rattle.cat_syntax.proofs.reading.Reader.definition.Goals as goal

pub returns : goal.returns
unfolding definition_at
returns c = rw (rw c.repeats_defined-repeated.ensures at c.in_ok-name.ensures, c.in_ok-parameters.ensures, c.in_ok-expect.ensures, c.in_ok-value.ensures) refl
