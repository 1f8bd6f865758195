use Rattle.cat_tree.specs.Tree.{term_of}
use Rattle.cat_model.proofs.Sized.{sizing_by}
use Rattle.cat_model.proofs.sizes.make_sizing.Goals as goal

pub returns : goal.returns
returns c = sizing_by c.args.scope.now.names.items c.args.parameters.now (term_of c.args.body.now) (record { weights = c.in_ok-weights.weights }) c.in_ok-weights.ensures
