use Rattle.std.proofs.Common.{arith}
use Rattle.candidates.proofs.Scenes.{found_on, none_on}
use Rattle.candidates.proofs.walk.search.Goals as goal

pub returns-then-ahead-hit-clause-found : goal.returns-then-ahead-hit-clause-found
returns-then-ahead-hit-clause-found c =
    let found = rw c.in-Found.is at c.in_ok-hit.ensures.found in
    (c.if-ahead-hit.true, found_on c.args.space.now c.args.from c.loop-number.number c.look.new.ahead.stretch c.in-Found.hit c.loop-number.invariant.order c.loop-number.invariant.none found)

pub loop-number-preserved : goal.loop-number-preserved
loop-number-preserved c =
    let past = rw c.in-Until.is at c.in_ok-hit.ensures.found in
    record {
      order = omega (arith, c.loop-number.invariant.order, past.0);
      none = none_on c.args.space.now c.args.from c.loop-number.number c.in-Until.next c.loop-number.invariant.none past.2;
      ahead = c.in_ok-hit.ensures.ahead;
    }
