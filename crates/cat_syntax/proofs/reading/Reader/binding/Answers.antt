use Rattle.std.proofs.Common.{refl}
use Rattle.cat_syntax.specs.Reading.{binding_at}
use Rattle.cat_syntax.proofs.reading.Reader.binding.Goals as goal

pub returns : goal.returns
unfolding binding_at
returns c = rw (rw c.repeats_bound-repeated.ensures at c.in_ok-name.ensures, c.in_ok-expect.ensures, c.in_ok-value.ensures) refl
