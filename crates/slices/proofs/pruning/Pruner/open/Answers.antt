use Rattle.std.proofs.Common.{◌≡◌, ◌+◌, ◌-◌, Option, sym, subst}
use Rattle.std.specs.Prelude.{IfSome, true}
use Rattle.cat_eval.specs.Judging.{Allowed, JudgementValue, Raised}
use Rattle.candidates.specs.Alike.{AllWithin}
use Rattle.events.specs.Executions.{GraphValue}
use Rattle.events.specs.Opened.{IsWithin, opened}
use Rattle.listings.specs.Lists.{Lists}
use Rattle.slices.proofs.Judging.{opened_judged}
use Rattle.slices.proofs.pruning.Pruner.open.Goals as goal

pub returns-clause-said : goal.returns-clause-said
returns-clause-said c =
    let items = c.args.evaluator.now.items in
    let w = c.args.walk.now in
    let o = c.in-Some.open in
    let a = w.next - 1 in
    let u = opened c.graph.result.now o.cut in
    let U : GraphValue → Type 0 = λ g. AllWithin w.space a (a + o.orders.size) (opened g o.cut) in
    let A : Option JudgementValue → Type 0 = λ r. IfSome r (λ j. (j.allowed ≡ true) × ((h : GraphValue) → IsWithin h u → Allowed items h)) in
    let F : Option JudgementValue → Type 0 = λ r. IfSome r (λ j. (h : GraphValue) → IsWithin h u → Lists (λ name. Allowed items h × Raised items h name) j.flags) in
    record {
      alike = c.in-Some.ensures.alike;
      within = c.in-Some.ensures.within;
      judged = opened_judged items w.space a (a + o.orders.size) c.in-Some-2.judgement u (subst U (sym c.graph.ensures) c.in-Some.ensures.inside)
          (subst A c.in-Some-2.is c.in_ok-judgement.ensures.allowed) (subst F c.in-Some-2.is c.in_ok-judgement.ensures.flags);
    }
