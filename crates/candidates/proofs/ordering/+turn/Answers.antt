use Rattle.std.proofs.Common.{◌-◌, take, drop, length, refl, arith}
use Rattle.candidates.proofs.Moves.{turned_none, turned_first, turned_all, behind_first, first_kept}
use Rattle.candidates.proofs.ordering.+turn.Goals as goal

pub returns-then-count-eq0-clause-turned : goal.returns-then-count-eq0-clause-turned
returns-then-count-eq0-clause-turned t c ws e = turned_none c.args.order.now ws c.args.from c.args.to c.if-count-eq0.true e

pub returns-then-from-count-clause-turned : goal.returns-then-from-count-clause-turned
returns-then-from-count-clause-turned t c ws e =
    turned_first c.args.order.now c.move_write.new.order ws c.args.from c.args.to (length c.args.order.now) refl (omega (arith, c.if-count-eq0.false)) c.if-from-count.true c.move_write.ensures.moved e

pub returns-clause-turned : goal.returns-clause-turned
returns-clause-turned t c ws e =
    turned_all c.args.order.now c.move_back.new.order (take (length c.move_back.new.order - 1) (drop 1 c.move_back.new.order)) c.turn.new.order _ c.move_on.new.order ws c.args.from c.args.to (length c.args.order.now) refl (omega (arith, c.if-count-eq0.false)) c.move_back.ensures.moved (behind_first c.move_back.new.order) c.turn.ensures.turned (first_kept c.move_back.new.order c.turn.new.order) c.move_on.ensures.moved e
