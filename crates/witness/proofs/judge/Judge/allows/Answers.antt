use Rattle.std.proofs.Common.{◌↔◌, IsTrue, subst, sym}
use Rattle.std.specs.Prelude.{IfOk}
use Rattle.cat_eval.specs.Judging.{Allowed}
use Rattle.witness.specs.Judges.{judged}
use Rattle.witness.specs.declared.judge.Judge.{Judge}
use Rattle.witness.proofs.judge.Judge.allows.Goals as goal

pub returns-in-Model-clause-allowed : goal.returns-in-Model-clause-allowed
returns-in-Model-clause-allowed c =
    let A : Judge → Type 0 = λ j. IfOk c.allows.result (λ allowed. IsTrue allowed ↔ Allowed (judged j) c.args.graph.now) in
    subst A (sym c.in-Model.is) c.allows.ensures.allowed
