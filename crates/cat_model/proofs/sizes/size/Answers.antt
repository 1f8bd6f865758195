use Rattle.cat_tree.specs.Tree.{term_of}
use Rattle.cat_model.proofs.Fitting.{only_weight}
use Rattle.cat_model.proofs.Sized.{size_by}
use Rattle.cat_model.proofs.sizes.size.Goals as goal

pub returns : goal.returns
returns c =
    size_by c.args.scope.now.names.items (term_of c.args.expression.now) c.in_ok-weights.weights.items c.index.result.now c.in_ok-weights.ensures
    (only_weight c.in_ok-weights.weights.items c.index.result.now c.in_ok-weights.ensures.long c.index.ensures)
