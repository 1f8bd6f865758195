use Rattle.std.proofs.Common.{◌≡◌, ◌-◌}
use Rattle.candidates.specs.Candidates.{choices_of, size_of}
use Rattle.witness.specs.Judges.{KnowsOf, judged}
use Rattle.witness.specs.Witnesses.{IsWitness, NoneBelow}
use Rattle.witness.proofs.search.find.Given as goal

abbrev pub decreases-loop-walk : goal.decreases-loop-walk
decreases-loop-walk l = l.walk.to - l.walk.next

abbrev pub invariant-loop-walk : goal.invariant-loop-walk
invariant-loop-walk l = record {
  space : l.walk.space ≡ choices_of l.test;
  to : l.walk.to ≡ size_of (choices_of l.test);
  items : judged l.judge ≡ judged l.fn.judge;
  known : KnowsOf (choices_of l.test) l.judge;
  none : NoneBelow l.test (IsWitness l.test (judged l.fn.judge) l.has) l.walk.next;
}
