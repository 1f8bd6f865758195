use Rattle.std.proofs.Common.{◌≡◌, ◌++◌, map, drop}
use Rattle.std.specs.Prelude.{All}
use Rattle.suite.specs.Judged.{IsRight, works_of}
use Rattle.suite.proofs.judging.judge_under.Given as goal

abbrev pub invariant-loop-model : goal.invariant-loop-model
invariant-loop-model g l = (map (λ v. v.work) l.verdicts.items ++ works_of l.test (drop l.model-index l.models) ≡ works_of l.test l.models) × All IsRight l.verdicts.items
