use Rattle.cat_tree.specs.Tree.{term_of}
use Rattle.cat_model.proofs.Nested.{nesting_by}
use Rattle.cat_model.proofs.depths.make_nesting.Goals as goal

pub returns : goal.returns
returns c = nesting_by c.args.scope.now.names.items c.args.parameters.now (term_of c.args.body.now) (record { weights = c.in_ok-weights.weights }) c.in_ok-weights.ensures
