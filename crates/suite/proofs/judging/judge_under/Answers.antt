use Rattle.suite.proofs.Verdicts.{judged_on, judged_none, judged_all}
use Rattle.suite.proofs.judging.judge_under.Goals as goal

pub loop-model-preserved : goal.loop-model-preserved
loop-model-preserved g c =
    judged_on c.args.test.now c.args.models.now c.loop-model.model-index c.model-item.result c.loop-model.verdicts.items c.push.new.self.items c.in_ok-judge_one.field-0 c.loop-model.invariant c.loop-model-test.true c.model-item.is
    c.in_ok-judge_one.ensures.work c.in_ok-judge_one.ensures.right c.in_ok-push.ensures.items

pub loop-model-init : goal.loop-model-init
loop-model-init g c = judged_none c.args.test.now c.args.models.now c.in_ok-verdicts.verdicts.items c.in_ok-verdicts.ensures.items

pub returns-clause-works : goal.returns-clause-works
returns-clause-works g c = judged_all c.args.test.now c.args.models.now c.loop-model.model-index c.loop-model.verdicts.items c.loop-model-test.false c.loop-model.invariant.0
