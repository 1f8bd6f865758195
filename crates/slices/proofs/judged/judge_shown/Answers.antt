use Rattle.std.proofs.Common.{List, subst}
use Rattle.cat_tree.specs.Tree.{Clause}
use Rattle.events.specs.Executions.{GraphValue}
use Rattle.slices.specs.Judgements.{IsJudged}
use Rattle.slices.specs.Lessons.{AreLearned}
use Rattle.slices.proofs.Judging.{judged_behind}
use Rattle.slices.proofs.judged.judge_shown.Goals as goal

pub returns-clause-said : goal.returns-clause-said
returns-clause-said c =
    let J : GraphValue → Type 0 = λ x. IsJudged c.args.evaluator.now.items c.in_ok-judgement.judgement x in
    let judged = subst J c.graph-graph.ensures (record { allowed = c.in_ok-judgement.ensures.allowed; flags = c.in_ok-judgement.ensures.flags }) in
    let behind = c.alike_behind-open.ensures in
    judged_behind c.args.evaluator.now.items c.args.walk.now c.in_ok-judgement.judgement c.alike_behind-open.result c.args.work.now.model.items c.requires.model c.requires.shown judged behind.orderless behind.alike behind.within

pub returns-in_err-learn-clause-learned : goal.returns-in_err-learn-clause-learned
returns-in_err-learn-clause-learned c s h =
    let P : List Clause → Type 0 = λ items. AreLearned s items c.args.pruner.now.lessons → AreLearned s items c.learn.new.self.lessons in
    subst P c.judge_next.ensures.model (c.learn.ensures.learned s) h

pub returns-clause-learned : goal.returns-clause-learned
returns-clause-learned c s h =
    let P : List Clause → Type 0 = λ items. AreLearned s items c.args.pruner.now.lessons → AreLearned s items c.learn.new.self.lessons in
    subst P c.judge_next.ensures.model (c.learn.ensures.learned s) h
