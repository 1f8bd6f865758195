use Rattle.std.proofs.Common.{rules, ◌++◌, [], ◌∷◌, map}
use Rattle.litmus_tree.proofs.Steps.{declared_push}
use Rattle.litmus_tree.specs.Tree.{declared_of}
use Rattle.litmus_syntax.proofs.Statements.{declarators_turn, declarators_loop_takes}
use Rattle.litmus_syntax.specs.Reading.{declarators_more}
use Rattle.litmus_syntax.proofs.syntax.Reader.declarators.Goals as goal

pub loop-declarators-preserved : goal.loop-declarators-preserved
unfolding declarators_more
loop-declarators-preserved c =
    let push = declared_push c.loop-declarators.declarators.items c.in_ok-declarator.declarator in
    let turn = declarators_turn c.args.nesting (map declared_of c.loop-declarators.declarators.items ++ declared_of c.in_ok-declarator.declarator ∷ []) c.declarator.new.self.rest.now in
    search (rules, push, turn)

pub loop-declarators-smaller : goal.loop-declarators-smaller
loop-declarators-smaller c =
    let takes = declarators_loop_takes c.args.nesting c.loop-declarators.self.rest.now c.declarator.new.self.rest.now c.take.new.self.rest.now (declared_of c.in_ok-declarator.declarator) c.in_ok-declarator.ensures in
    search (rules, takes)

pub returns-then-not-take : goal.returns-then-not-take
unfolding declarators_more
returns-then-not-take c =
    let push = declared_push c.loop-declarators.declarators.items c.in_ok-declarator.declarator in
    let turn = declarators_turn c.args.nesting (map declared_of c.loop-declarators.declarators.items ++ declared_of c.in_ok-declarator.declarator ∷ []) c.declarator.new.self.rest.now in
    search (rules, push, turn)
