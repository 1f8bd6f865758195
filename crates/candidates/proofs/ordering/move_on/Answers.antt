use Rattle.std.proofs.Common.{◌+◌, ◌∙◌, refl, arith}
use Rattle.candidates.proofs.Moves.{moved_on}
use Rattle.candidates.proofs.ordering.move_on.Goals as goal

pub loop-place-preserved : goal.loop-place-preserved
loop-place-preserved c =
    let at = c.loop-place in
    record {
      within = omega (arith, c.loop-place-test.true);
      len = c.swap.ensures.len ∙ at.invariant.len;
      moved = moved_on c.args.order.now at.order c.swap.new.self c.args.from at.place (at.place + 1) refl
          (omega (arith, c.loop-place-test.true, at.invariant.len, c.requires.within)) c.swap.ensures.after at.invariant.moved;
    }
