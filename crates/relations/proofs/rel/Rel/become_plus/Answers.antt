use Rattle.std.proofs.Common.{◌-◌, ◌+◌, arith}
use Rattle.relations.specs.Relation.{In}
use Rattle.relations.proofs.Reached.{closing_begun, closed_at, closing_done}
use Rattle.relations.proofs.rel.Rel.become_plus.Goals as goal

pub loop-passed-init : goal.loop-passed-init
loop-passed-init c = closing_begun (c.args.of.now.count - 0) c.args.of.now c.become_copy.new.self c.count-count.ensures.canonical (omega arith) c.become_copy.ensures

pub close_row-requires-clause-behind : goal.close_row-requires-clause-behind
close_row-requires-clause-behind c =
    closed_at _ (c.args.of.now.count - c.loop-passed.passed) (c.count-count.result - 1 - c.loop-passed.passed + 1) (In c.args.of.now) c.loop-passed.self (omega (arith, c.count-count.ensures.is, c.loop-passed-test.true, c.count-count.ensures.is)) c.loop-passed.invariant

pub loop-passed-preserved : goal.loop-passed-preserved
loop-passed-preserved c =
    closed_at _ (c.count-count.result - 1 - c.loop-passed.passed) (c.args.of.now.count - (c.loop-passed.passed + 1)) (In c.args.of.now) c.close_row.new.self (omega (arith, c.count-count.ensures.is, c.loop-passed-test.true, c.count-count.ensures.is)) c.close_row.ensures

pub returns : goal.returns
returns c =
    closing_done _ (c.args.of.now.count - c.loop-passed.passed) (In c.args.of.now) c.loop-passed.self (omega (arith, c.loop-passed-test.false, c.count-count.ensures.is)) c.loop-passed.invariant
