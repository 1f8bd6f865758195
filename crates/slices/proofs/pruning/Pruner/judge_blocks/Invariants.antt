use Rattle.std.proofs.Common.{◌≡◌}
use Rattle.std.specs.Prelude.{IfSome}
use Rattle.events.specs.Structures.{structure_of}
use Rattle.slices.proofs.pruning.Pruner.judge_blocks.Given as goal

abbrev pub invariant-loop-depth : goal.invariant-loop-depth
invariant-loop-depth l = record {
  model : l.evaluator.items ≡ l.fn.evaluator.items;
  relied : IfSome l.evaluator.relied (λ s. s ≡ structure_of l.fn.walk.shown);
  walk : l.walk ≡ l.fn.walk;
  refuted : l.self.refuted ≡ l.fn.self.refuted;
  lessons : l.self.lessons ≡ l.fn.self.lessons;
}
