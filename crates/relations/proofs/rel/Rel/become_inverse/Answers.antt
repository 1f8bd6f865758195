use Rattle.std.proofs.Common.{arith}
use Rattle.relations.specs.Relation.{In}
use Rattle.relations.proofs.Words.{of_and_bit, mask_only_at}
use Rattle.relations.proofs.Relations.{none_exact}
use Rattle.relations.proofs.Turned.{turning_on, turning_done}
use Rattle.relations.proofs.rel.Rel.become_inverse.Goals as goal

pub loop-to-init : goal.loop-to-init
loop-to-init c = none_exact _ _ _ _ c.count-count.ensures.is c.become_empty.ensures (λ i j x. absurd (let l = x.0 in omega (arith, l)))

pub insert_from-requires-clause-to : goal.insert_from-requires-clause-to
insert_from-requires-clause-to c = omega (arith, c.loop-to-test.true, c.count-count.ensures.is, c.loop-to.invariant.count)

pub insert_from-requires-clause-inside : goal.insert_from-requires-clause-inside
insert_from-requires-clause-inside c = λ m h.
    (let b = mask_only_at c.args.of.now.count c.count-count.result c.below-all.result m c.below-all.ensures c.count-count.ensures.is (of_and_bit c.row.result c.below-all.result m h).1 in
    omega (arith, b, c.loop-to.invariant.count))

pub loop-to-preserved : goal.loop-to-preserved
loop-to-preserved c =
    turning_on c.args.of.now.count c.count-count.result c.loop-to.to c.row.result c.below-all.result (In c.args.of.now) c.loop-to.self c.insert_from.new.self (omega (arith, c.loop-to-test.true, c.count-count.ensures.is)) c.below-all.ensures c.count-count.ensures.is c.row.ensures c.loop-to.invariant c.insert_from.ensures

pub returns : goal.returns
returns c = turning_done _ _ (In c.args.of.now) _ (omega (arith, c.loop-to-test.false, c.count-count.ensures.is)) c.loop-to.invariant
