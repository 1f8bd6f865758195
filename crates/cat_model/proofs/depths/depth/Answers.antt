use Rattle.std.proofs.Common.{ℕ, sym, subst}
use Rattle.cat_tree.specs.Tree.{term_of}
use Rattle.cat_model.specs.Depths.{depth}
use Rattle.cat_model.specs.Nesting.{NearDepth}
use Rattle.cat_model.proofs.Fitting.{only_weight}
use Rattle.cat_model.proofs.Nested.{depth_by}
use Rattle.cat_model.proofs.depths.depth.Goals as goal

pub returns : goal.returns
returns c = λ D f.
    (let P : ℕ → Type 0 = λ n. NearDepth n (depth D (term_of c.args.expression.now)) in
    subst P (sym c.saturating_sub.ensures) (depth_by c.args.scope.now.names.items (term_of c.args.expression.now) c.in_ok-weights.weights.items c.index.result.now c.in_ok-weights.ensures
    (only_weight c.in_ok-weights.weights.items c.index.result.now c.in_ok-weights.ensures.long c.index.ensures) D f))
