use Rattle.std.proofs.Common.{◌∙◌, ◌/◌, List, ap, subst, sym, length}
use Rattle.events.specs.declared.event.Event.{Event}
use Rattle.events.specs.Executions.{GraphValue, IsGraph}
use Rattle.candidates.specs.Readings.{read_at}
use Rattle.candidates.proofs.Graphs.{is_candidate, is_graph}
use Rattle.candidates.proofs.Listed.{by_writes}
use Rattle.std.proofs.lemmas.Result.{IfOk-from_err}
use Rattle.candidates.proofs.Pages.{reading_within, some_orders}
use Rattle.candidates.proofs.assembly.assemble.Goals as goal

pub read_from-requires-clause-page : goal.read_from-requires-clause-page
read_from-requires-clause-page c = by_writes _ c.args.page.now c.requires.page

pub new-requires : goal.new-requires
new-requires c =
    let init = c.args.init.now in
    let page = c.args.page.now in
    let runs = page.runs.items in
    let number = c.args.number in
    let orders = page.orders in
    let e = is_candidate init runs orders number c.in_ok-values.values.items c.in_ok-runs.runs.items c.in_ok-rf.rf.items c.in_ok-co.co.items
    c.in_ok-values.ensures.items (c.in_ok-runs.ensures ∙ c.deref.ensures.value) c.requires.page.orders
    (c.in_ok-rf.ensures ∙ ap (λ (rs : List Event). read_at runs rs (number / orders)) c.requires.page.reads_are) c.in_ok-co.ensures in
    let P : GraphValue → Type 0 = IsGraph in
    subst P (sym e) (is_graph init runs number c.requires.page.within c.requires.number)

pub returns-in_err-values : goal.returns-in_err-values
returns-in_err-values c = IfOk-from_err c.from_residual.result _ c.from_residual.ensures.0

pub returns-in_err-rf : goal.returns-in_err-rf
returns-in_err-rf c = IfOk-from_err c.from_residual-in_err-rf.result _ c.from_residual-in_err-rf.ensures.0

pub returns-in_err-runs : goal.returns-in_err-runs
returns-in_err-runs c = IfOk-from_err c.from_residual-in_err-runs.result _ c.from_residual-in_err-runs.ensures.0

pub returns-in_err-co : goal.returns-in_err-co
returns-in_err-co c = IfOk-from_err c.from_residual-in_err-co.result _ c.from_residual-in_err-co.ensures.0

pub returns : goal.returns
returns c =
    let init = c.args.init.now in
    let page = c.args.page.now in
    let runs = page.runs.items in
    let number = c.args.number in
    let orders = page.orders in
    c.new.ensures ∙ is_candidate init runs orders number c.in_ok-values.values.items c.in_ok-runs.runs.items c.in_ok-rf.rf.items c.in_ok-co.co.items
    c.in_ok-values.ensures.items (c.in_ok-runs.ensures ∙ c.deref.ensures.value) c.requires.page.orders
    (c.in_ok-rf.ensures ∙ ap (λ (rs : List Event). read_at runs rs (number / orders)) c.requires.page.reads_are) c.in_ok-co.ensures

pub read_from-requires-clause-number : goal.read_from-requires-clause-number
read_from-requires-clause-number c = reading_within (length c.args.init.now) c.args.page.now c.args.number c.requires.page c.requires.number

pub nonzero_rem-number : goal.nonzero_rem-number
nonzero_rem-number c = some_orders (length c.args.init.now) c.args.page.now c.requires.page

pub nonzero_div-number : goal.nonzero_div-number
nonzero_div-number c = some_orders (length c.args.init.now) c.args.page.now c.requires.page
