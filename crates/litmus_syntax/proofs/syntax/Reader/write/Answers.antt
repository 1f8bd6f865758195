use Rattle.std.proofs.Common.{ap}
use Rattle.std.specs.Prelude.{Ok}
use Rattle.litmus_tree.specs.Tree.{Step}
use Rattle.litmus_syntax.specs.Reading.{write_at}
use Rattle.litmus_syntax.proofs.Variants.{write_step}
use Rattle.litmus_syntax.proofs.syntax.Reader.write.Goals as goal

pub returns : goal.returns
unfolding write_at
returns c = rw (c.in_ok-location.ensures, c.in_ok-expect.ensures, c.in_ok-value.ensures) (ap (λ (s : Step). Ok (s, c.expression.new.self.rest.now)) (write_step c.in_ok-location.location c.in_ok-value.value))
