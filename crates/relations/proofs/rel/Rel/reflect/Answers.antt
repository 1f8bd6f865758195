use Rattle.std.proofs.Common.{arith}
use Rattle.relations.specs.Relation.{In}
use Rattle.relations.proofs.Relations.{reflect_begun, reflect_on, reflected}
use Rattle.relations.proofs.rel.Rel.reflect.Goals as goal

pub loop-i-init : goal.loop-i-init
loop-i-init c = reflect_begun c.args.self.now c.count-i-end.ensures.canonical

pub loop-i-preserved : goal.loop-i-preserved
loop-i-preserved c = reflect_on c.args.self.now.count c.loop-i.i (In c.args.self.now) c.loop-i.self c.insert.new.self c.loop-i.invariant c.insert.ensures

pub returns : goal.returns
returns c = reflected c.args.self.now.count c.loop-i.i (In c.args.self.now) c.loop-i.self (omega (arith, c.loop-i-test.false, c.loop-i.auto.i-end, c.count-i-end.ensures.is)) c.loop-i.invariant
