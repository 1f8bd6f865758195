use Rattle.candidates.proofs.Scenes.{found_on}
use Rattle.std.proofs.Common.{arith}
use Rattle.candidates.proofs.walk.search_near.Goals as goal

pub returns-then-scene-hit : goal.returns-then-scene-hit
returns-then-scene-hit c = (c.if-scene-hit.true, found_on c.args.space.now c.args.from c.loop-number.number c.args.scene.now.stretch c.in-Found.hit c.loop-number.invariant.order c.loop-number.invariant.none c.in-Found.ensures)

pub visit-requires-clause-within : goal.visit-requires-clause-within
visit-requires-clause-within c =
    let inside = c.contains.ensures c.if-not-contains.false in
    record { stretch = c.requires.scene.stretch.whole (omega (arith, inside.1)); first = inside.0; last = omega (arith, inside.0, inside.1) }
