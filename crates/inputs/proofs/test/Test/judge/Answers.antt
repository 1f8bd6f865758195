use Rattle.std.proofs.Common.{refl, subst}
use Rattle.std.specs.Prelude.{IfErr, IfOk}
use Rattle.suite.specs.Judged.{HasNone, HasVerdicts}
use Rattle.inputs.proofs.Settled.{judged_told, refused_told}
use Rattle.inputs.proofs.test.Test.judge.Goals.{in-Ok, in-Err-Late, in-Err+in-Err}
use Rattle.inputs.proofs.test.Test.judge.Goals as goal

pub returns-clause-told : goal.returns-clause-told
returns-clause-told g c =
    let asked = c.args.asked.now in
    let old = c.args.self.now in
    let models = c.models.result.now in
    let M = g.T.Timer.may_tell c.judge_text-judged.new.patience in
    elim c.match-judged.branch [
      | in-Ok w ↦
          let found = subst (λ r. IfOk r (λ vs. HasVerdicts c.deref.result.now models vs.items)) w.in-Ok.is c.judge_text-judged.ensures.found in
          let right = subst (λ text. HasVerdicts text models w.in-Ok.verdicts.items) c.deref.ensures.value found in
          rw (w.self2-is, w.self-is, w.done-self.ensures)
          (judged_told M w.milliseconds.result asked old.path.now old.text.items models w.deref-in-Ok.result.now w.tell-told.result old.told w.tell-told.new.self.told
          w.milliseconds.ensures c.models.ensures (rw w.deref-in-Ok.ensures.value right) w.tell-told.ensures.told)
      | in-Err-Late w ↦ rw (w.self2-is, w.self-is) refl
      | in-Err+in-Err w ↦
          let cause = subst (λ r. IfErr r (HasNone c.deref.result.now)) w.in-Err.is c.judge_text-judged.ensures.cause in
          rw (w.self2-is, w.self-is, w.done-self-in-Err.ensures)
          (refused_told M w.milliseconds-in-Err.result asked old.path.now old.text.items w.in-Err.trouble w.refuse-told.result old.told w.refuse-told.new.self.told
          w.milliseconds-in-Err.ensures (subst (λ text. HasNone text w.in-Err.trouble) c.deref.ensures.value cause) w.refuse-told.ensures.told)
    ]
