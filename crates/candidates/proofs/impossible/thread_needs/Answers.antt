use Rattle.std.proofs.Common.{◌∙◌, [], List, subst}
use Rattle.std.proofs.lemmas.List.{get_or_default}
use Rattle.std.proofs.lemmas.Result.{IfOk-from_err}
use Rattle.events.specs.Executions.{ThreadRun}
use Rattle.listings.specs.Lists.{ForEach}
use Rattle.candidates.specs.declared.impossible.Needs.{Needs}
use Rattle.candidates.specs.Impossible.{AreGivenBy, AreNeeds}
use Rattle.candidates.proofs.impossible.thread_needs.Goals as goal

pub returns-in_err-needs : goal.returns-in_err-needs
returns-in_err-needs c = IfOk-from_err c.from_residual.result _ c.from_residual.ensures.0

pub returns : goal.returns
returns c =
    let threads = c.args.threads.now in
    let k = c.args.thread in
    let R : ThreadRun → Needs → Type 0 = λ run n. AreNeeds c.args.init.now c.args.stores.now run.events n in
    let P : List ThreadRun → Type 0 = λ rs. ForEach R rs c.in_ok-needs.needs.items in
    let Q : List (List ThreadRun) → Type 0 = λ ts. AreGivenBy c.args.stores.now ts c.given_behind-behind.result in
    record {
      runs = subst P (c.runs.ensures ∙ c.index-threads-thread.is ∙ get_or_default threads k c.index-threads-thread.result [] c.requires) c.in_ok-needs.ensures;
      later = subst Q c.later.ensures c.given_behind-behind.ensures;
    }
