use Rattle.std.proofs.Common.{List, subst, sym}
use Rattle.cat_tree.specs.Tree.{Clause}
use Rattle.slices.specs.Passing.{Knows}
use Rattle.witness.proofs.judge.ModelJudge.passes.Goals as goal

pub passes-requires-clause-known : goal.passes-requires-clause-known
passes-requires-clause-known c =
    let K : List Clause → Type 0 = λ items. Knows c.args.walk.now.space items c.args.self.now.pruner in
    subst K (sym c.forget_runs.ensures.items) c.requires.known

pub returns-clause-known : goal.returns-clause-known
returns-clause-known c =
    let K : List Clause → Type 0 = λ items. Knows c.args.walk.now.space items c.passes.new.self in
    subst K c.forget_runs.ensures.items c.passes.ensures.known
