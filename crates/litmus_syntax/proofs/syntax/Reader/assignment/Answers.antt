use Rattle.std.proofs.Common.{ap}
use Rattle.std.specs.Prelude.{Ok}
use Rattle.litmus_tree.specs.Tree.{Step}
use Rattle.litmus_syntax.specs.Reading.{assignment_at}
use Rattle.litmus_syntax.proofs.Variants.{assign_step}
use Rattle.litmus_syntax.proofs.syntax.Reader.assignment.Goals as goal

pub returns : goal.returns
unfolding assignment_at
returns c = rw (c.in_ok-register.ensures, c.in_ok-expect.ensures, c.in_ok-value.ensures) (ap (λ (s : Step). Ok (s, c.right_side.new.self.rest.now)) (assign_step c.in_ok-register.register c.in_ok-value.value))
