use Rattle.std.proofs.Common.{◌≡◌}
use Rattle.std.specs.Prelude.{IfSome}
use Rattle.events.specs.Structures.{structure_of}
use Rattle.slices.specs.Lessons.{AreLearned}
use Rattle.slices.proofs.pruning.Pruner.forbidden_around.Given as goal

abbrev pub invariant-loop-depth : goal.invariant-loop-depth
invariant-loop-depth l = record {
  model : l.evaluator.items ≡ l.fn.evaluator.items;
  relied : IfSome l.evaluator.relied (λ s. s ≡ structure_of l.walk.shown);
  refuted : l.self.refuted ≡ l.fn.self.refuted;
  learned : AreLearned l.walk.space l.fn.evaluator.items l.self.lessons;
}
