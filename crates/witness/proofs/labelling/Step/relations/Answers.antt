use Rattle.std.proofs.Common.{refl}
use Rattle.witness.proofs.Labelled.{next_ordered, next_written}
use Rattle.witness.proofs.labelling.Step.relations.Goals as goal

pub loop-relation-preserved : goal.loop-relation-preserved
loop-relation-preserved c = (
  next_written c.args.view.now _ _ c.args.relations.now _ _ _ c.rel-rel.result c.is_in.result _ _ _ c.loop-relation-test.true refl c.rel-rel.ensures c.is_in.ensures c.in_ok-word.ensures c.in_ok-bind.ensures c.loop-relation.invariant.0,
  next_ordered c.args.relations.now _ _ _ c.is_in.result _ _ _ c.loop-relation-test.true refl c.in_ok-word.ensures c.in_ok-bind.ensures c.loop-relation.invariant.1,
)
