use Rattle.std.proofs.Common.{◌∙◌, List, map, ap, sym}
use Rattle.cat_tree.specs.declared.tree.Definition.{Definition}
use Rattle.cat_tree.specs.Tree.{defined_of}
use Rattle.witness.specs.Labels.{hidden_by}
use Rattle.witness.proofs.Labelled.{drop_first}
use Rattle.witness.proofs.labelling.hide_all.Goals as goal

pub loop-definition-preserved : goal.loop-definition-preserved
loop-definition-preserved c =
    let names = c.loop-definition.names.items in
    rw c.hide.ensures (sym (ap (λ (ds : List Definition). hidden_by (map defined_of ds) names) (drop_first c.definition-item.result c.args.definitions.now c.loop-definition.definition-index c.loop-definition-test.true c.definition-item.is)) ∙ c.loop-definition.invariant)
