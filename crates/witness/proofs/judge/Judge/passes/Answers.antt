use Rattle.std.proofs.Common.{List, sym, subst}
use Rattle.cat_tree.specs.Tree.{Clause}
use Rattle.slices.specs.Passing.{Knows}
use Rattle.witness.proofs.judge.Judge.passes.Goals as goal

pub returns-in-Model-clause-known : goal.returns-in-Model-clause-known
returns-in-Model-clause-known c =
    let K : List Clause → Type 0 = λ items. Knows c.args.walk.now.space items c.passes.new.self.pruner in
    subst K (sym c.passes.ensures.items) c.passes.ensures.known
