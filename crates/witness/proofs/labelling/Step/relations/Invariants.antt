use Rattle.std.proofs.Common.{take}
use Rattle.listings.specs.Lists.{Lists}
use Rattle.witness.specs.Labels.{AreInOrder, IsWritten, at_last, words_of}
use Rattle.witness.proofs.labelling.Step.relations.Given as goal

abbrev pub invariant-loop-relation : goal.invariant-loop-relation
invariant-loop-relation l = Lists (IsWritten l.view l.self.from l.self.to (take l.relation-index l.relations)) l.names.items × AreInOrder l.names.items (at_last (words_of (take l.relation-index l.relations)))
