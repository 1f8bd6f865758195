use Rattle.std.proofs.Common.{◌↔◌, Bool, List, IsTrue, subst, sym}
use Rattle.cat_eval.specs.Judging.{Allowed}
use Rattle.cat_tree.specs.Tree.{Clause}
use Rattle.witness.proofs.judge.ModelJudge.allows.Goals as goal

pub returns-clause-allowed : goal.returns-clause-allowed
returns-clause-allowed c =
    let B : Bool → Type 0 = λ b. IsTrue b ↔ Allowed c.args.self.now.evaluator.items c.args.graph.now in
    let I : List Clause → Type 0 = λ items. IsTrue c.in_ok-judgement.judgement.allowed ↔ Allowed items c.args.graph.now in
    subst B (sym c.allowed.ensures) (subst I c.forget_runs.ensures.items c.in_ok-judgement.ensures.allowed)
