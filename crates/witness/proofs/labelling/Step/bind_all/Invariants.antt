use Rattle.std.proofs.Common.{◌≡◌, drop, map}
use Rattle.cat_tree.specs.Tree.{clause_of}
use Rattle.witness.specs.Labels.{all_labelled}
use Rattle.witness.proofs.labelling.Step.bind_all.Given as goal

abbrev pub invariant-loop-number : goal.invariant-loop-number
invariant-loop-number l = all_labelled l.self.from l.self.to (map clause_of (drop l.number l.items)) (drop l.number l.outcomes) l.names.items ≡ all_labelled l.self.from l.self.to (map clause_of l.fn.items) l.fn.outcomes l.fn.names.items
