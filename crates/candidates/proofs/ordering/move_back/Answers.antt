use Rattle.std.proofs.Common.{◌-◌, ◌∙◌, arith}
use Rattle.candidates.proofs.Moves.{moved_back}
use Rattle.candidates.proofs.ordering.move_back.Goals as goal

pub loop-place-preserved : goal.loop-place-preserved
loop-place-preserved c =
    let at = c.loop-place in
    record {
      order = omega (arith, c.loop-place-test.true);
      within = omega (arith, at.invariant.within);
      len = c.swap.ensures.len ∙ at.invariant.len;
      moved = moved_back c.args.order.now at.order c.swap.new.self c.args.from at.place (at.place - 1) (omega (arith, c.loop-place-test.true))
          (omega (arith, at.invariant.within, at.invariant.len, c.requires.within)) c.swap.ensures.after at.invariant.moved;
    }
