use Rattle.std.proofs.Common.{◌∙◌, sym}
use Rattle.keys.proofs.Stacks.{next_digit, still_below}
use Rattle.keys.proofs.key.Key.push_digits.Goals as goal

pub loop-preserved : goal.loop-preserved
loop-preserved c = (
  rw c.in_ok-push_byte.ensures (sym (next_digit c.loop.counter c.loop.rest c.loop.self c.loop-test.true) ∙ c.loop.invariant.0),
  still_below c.loop.counter c.loop.rest c.loop-test.true c.loop.invariant.1,
)
