-- What decides whether an execution counts.
use Rattle.std.specs.Prelude.{List, []}
use Rattle.candidates.specs.Candidates.{Choices}
use Rattle.cat_tree.specs.Tree.{Clause}
use Rattle.slices.specs.Passing.{Knows}
use Rattle.witness.specs.declared.judge.Judge.{Judge}
use Rattle.witness.specs.declared.judge.Judge.TheVariants.{Model, All}

-- the items of the model, or none where all executions count: a model without items allows each
abbrev pub judged : Judge → List Clause
judged (Model judge) = judge.evaluator.items
judged All = []

-- What the judge keeps of refuted executions is right for these candidates.
abbrev pub KnowsOf : Choices → Judge → Type 0
KnowsOf s (Model judge) = Knows s judge.evaluator.items judge.pruner
KnowsOf s All = Unit {0}
