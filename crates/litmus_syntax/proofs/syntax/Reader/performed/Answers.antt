use Rattle.std.proofs.Common.{ap}
use Rattle.std.specs.Prelude.{Ok}
use Rattle.litmus_tree.specs.Tree.{Step}
use Rattle.litmus_syntax.specs.Reading.{performed_at}
use Rattle.litmus_syntax.proofs.Variants.{perform_step}
use Rattle.litmus_syntax.proofs.syntax.Reader.performed.Goals as goal

pub returns-in_ok-operation-in-Some : goal.returns-in_ok-operation-in-Some
unfolding performed_at
returns-in_ok-operation-in-Some c = rw (c.in-Some.ensures, c.in_ok-operation-in-Some.ensures) (ap (λ (s : Step). Ok (s, c.operation.new.self.rest.now)) (perform_step c.in_ok-operation-in-Some.field-0))
