use Rattle.std.proofs.Common.{ap}
use Rattle.std.specs.Prelude.{Ok}
use Rattle.litmus_tree.specs.Tree.{Step}
use Rattle.litmus_syntax.specs.Reading.{simple_at, declaration_at}
use Rattle.litmus_syntax.proofs.Variants.{declare_step}
use Rattle.litmus_syntax.proofs.syntax.Reader.simple.Goals as goal

pub returns-then-take : goal.returns-then-take
unfolding simple_at declaration_at
returns-then-take c = rw (c.if-take.ensures, c.in_ok-declarators.ensures) (ap (λ (s : Step). Ok (s, c.declarators.new.self.rest.now)) (declare_step c.in_ok-declarators.field-0))

pub returns-then-take-2 : goal.returns-then-take-2
unfolding simple_at
returns-then-take-2 c = rw (c.if-take.ensures.0, ← c.if-take.ensures.1, c.if-take-2.ensures) c.write.ensures

pub returns-then-is_before_name : goal.returns-then-is_before_name
unfolding simple_at
returns-then-is_before_name c = rw (c.if-take.ensures.0, ← c.if-take.ensures.1, c.if-take-2.ensures.0, ← c.if-take-2.ensures.1, c.if-is_before_name.ensures) c.assignment.ensures

pub returns : goal.returns
unfolding simple_at
returns c = rw (c.if-take.ensures.0, ← c.if-take.ensures.1, c.if-take-2.ensures.0, ← c.if-take-2.ensures.1, c.if-is_before_name.ensures) c.performed.ensures
