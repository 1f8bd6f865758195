use Rattle.std.proofs.Common.{ap, rules, arith, length}
use Rattle.std.specs.Prelude.{Ok}
use Rattle.litmus_tree.specs.Tree.{Step, step_of, steps_of}
use Rattle.litmus_syntax.specs.Reading.{step_with, block_with, inside, unless, expected, steps_with, if_with, else_with, tested_at, open_at, opened}
use Rattle.litmus_syntax.proofs.Variants.{empty_step, block_step}
use Rattle.litmus_syntax.proofs.Statements.{step_takes, steps_turn}
use Rattle.litmus_syntax.proofs.Stops.{opens}
use Rattle.litmus_tree.proofs.Steps.{only_if, if_and_else, pushed}
use Rattle.litmus_syntax.proofs.syntax.Reader.+statements.Goals as goal

pub statements-loop-self-smaller : goal.statements-loop-self-smaller
statements-loop-self-smaller t c =
    omega (arith, step_takes c.args.nesting c.take.new.self.rest.now c.statement.new.self.rest.now (step_of c.in_ok-statement.statement) c.in_ok-statement.ensures, ap length c.loop-self-test.ensures.1)

pub statements-loop-self-preserved : goal.statements-loop-self-preserved
unfolding unless
statements-loop-self-preserved t c =
    let push = pushed c.loop-self.statements.items c.in_ok-statement.statement in
    let turn = steps_turn c.args.nesting (steps_of c.loop-self.statements.items) c.loop-self.self.rest.now in
    search (rules, push, turn)

pub statements-returns-in_err-statement : goal.statements-returns-in_err-statement
unfolding steps_with unless
statements-returns-in_err-statement t c = let turn = steps_turn c.args.nesting (steps_of c.loop-self.statements.items) c.loop-self.self.rest.now in search (rules, turn)

pub statements-returns : goal.statements-returns
unfolding steps_with unless expected
statements-returns t c = let turn = steps_turn c.args.nesting (steps_of c.loop-self.statements.items) c.loop-self.self.rest.now in search (rules, turn)

-- the tree of an if

pub branch-returns-then-not-take : goal.branch-returns-then-not-take
unfolding if_with else_with inside tested_at open_at opened
branch-returns-then-not-take t c = let tree = only_if c.in_ok-test.test c.in_ok-arm.arm in search (rules, tree)

pub branch-returns : goal.branch-returns
unfolding if_with else_with inside tested_at open_at opened
branch-returns t c = let tree = if_and_else c.in_ok-test.test c.in_ok-arm.arm c.in_ok-other.other in search (rules, tree)

pub statement-returns-then-take-2 : goal.statement-returns-then-take-2
unfolding step_with block_with inside
statement-returns-then-take-2 t c = rw (c.if-take.ensures.0, ← c.if-take.ensures.1, c.if-take-2.ensures, c.in_ok-nesting.ensures.ok, c.in_ok-statements.ensures) (ap (λ (s : Step). Ok (s, c.statements.new.self.rest.now)) (block_step c.in_ok-statements.field-0))

-- the other statements

pub statement-returns-then-take : goal.statement-returns-then-take
unfolding step_with
statement-returns-then-take t c = rw (c.if-take.ensures) (ap (λ (s : Step). Ok (s, c.take.new.self.rest.now)) empty_step)

pub statement-returns-then-take-3 : goal.statement-returns-then-take-3
unfolding step_with
statement-returns-then-take-3 t c = rw (c.if-take.ensures.0, ← c.if-take.ensures.1, c.if-take-2.ensures.0, ← c.if-take-2.ensures.1, c.if-take-3.ensures) c.branch-self.ensures

pub statement-returns : goal.statement-returns
unfolding step_with
statement-returns t c = rw (c.if-take.ensures.0, ← c.if-take.ensures.1, c.if-take-2.ensures.0, ← c.if-take-2.ensures.1, c.if-take-3.ensures.0, ← c.if-take-3.ensures.1) c.closed.ensures

pub branch-arm-requires : goal.branch-arm-requires
branch-arm-requires t c = omega (arith, opens c.args.nesting c.in_ok-nesting.nesting c.args.self.now.rest.now c.open.new.self.rest.now c.in_ok-nesting.ensures)

pub branch-arm-requires-2 : goal.branch-arm-requires-2
branch-arm-requires-2 t c = omega (arith, opens c.args.nesting c.in_ok-nesting.nesting c.args.self.now.rest.now c.open.new.self.rest.now c.in_ok-nesting.ensures)
