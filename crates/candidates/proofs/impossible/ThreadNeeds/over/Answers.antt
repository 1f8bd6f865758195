use Rattle.std.proofs.Common.{arith}
use Rattle.candidates.proofs.impossible.ThreadNeeds.over.Goals as goal

pub returns-then-not-has_more : goal.returns-then-not-has_more
returns-then-not-has_more c = record {
  end = c.args.place;
  order = omega arith;
  within = omega (arith, c.requires.place);
  sum = omega arith;
  marked = λ i a b. absurd (omega (arith, a, b));
}

pub returns : goal.returns
returns c = c.passed.ensures
