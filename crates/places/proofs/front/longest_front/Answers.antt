use Rattle.std.proofs.Common.{arith}
use Rattle.places.proofs.Fronts.{one_less, empty_front}
use Rattle.places.proofs.front.longest_front.Goals as goal

pub loop-end-preserved : goal.loop-end-preserved
loop-end-preserved c = (
  omega (arith, c.loop-end.invariant.0),
  one_less c.args.dialect c.args.text.now c.loop-end.end c.loop-end.invariant.1 (c.in_ok-front_has_tokens.ensures.no c.if-branch.false),
)

pub returns : goal.returns
returns c = empty_front c.args.dialect c.args.text.now c.loop-end.end (omega arith) c.loop-end.invariant.1
