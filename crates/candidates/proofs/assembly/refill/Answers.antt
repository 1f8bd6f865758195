use Rattle.std.proofs.Common.{◌≡◌, ◌/◌, ◌%◌, length}
use Rattle.std.proofs.lemmas.Result.{IfOk-from_err}
use Rattle.candidates.specs.Candidates.{orders_by, rf_at}
use Rattle.candidates.proofs.Renumbering.{HasMaps, known_on}
use Rattle.candidates.proofs.Staying.{still_some}
use Rattle.candidates.proofs.assembly.refill.Goals as goal

pub returns-clause-init : goal.returns-clause-init
returns-clause-init c = c.in_ok-values.ensures

pub returns-clause-runs : goal.returns-clause-runs
returns-clause-runs c = c.in_ok-again.ensures.runs

pub returns-in_err-values-clause-init : goal.returns-in_err-values-clause-init
returns-in_err-values-clause-init c = IfOk-from_err c.from_residual.result _ c.from_residual.ensures.0

pub returns-in_err-values-clause-runs : goal.returns-in_err-values-clause-runs
returns-in_err-values-clause-runs c = IfOk-from_err c.from_residual.result _ c.from_residual.ensures.0

pub returns-in_err-values-clause-rf : goal.returns-in_err-values-clause-rf
returns-in_err-values-clause-rf c = IfOk-from_err c.from_residual.result _ c.from_residual.ensures.0

pub returns-in_err-again-clause-init : goal.returns-in_err-again-clause-init
returns-in_err-again-clause-init c = IfOk-from_err c.from_residual-in_err-again.result _ c.from_residual-in_err-again.ensures.0

pub returns-in_err-again-clause-runs : goal.returns-in_err-again-clause-runs
returns-in_err-again-clause-runs c = IfOk-from_err c.from_residual-in_err-again.result _ c.from_residual-in_err-again.ensures.0

pub returns-in_err-again-clause-rf : goal.returns-in_err-again-clause-rf
returns-in_err-again-clause-rf c = IfOk-from_err c.from_residual-in_err-again.result _ c.from_residual-in_err-again.ensures.0

pub returns-in_err-rf-clause-init : goal.returns-in_err-rf-clause-init
returns-in_err-rf-clause-init c = IfOk-from_err c.from_residual-in_err-rf.result _ c.from_residual-in_err-rf.ensures.0

pub returns-in_err-rf-clause-runs : goal.returns-in_err-rf-clause-runs
returns-in_err-rf-clause-runs c = IfOk-from_err c.from_residual-in_err-rf.result _ c.from_residual-in_err-rf.ensures.0

pub returns-in_err-rf-clause-rf : goal.returns-in_err-rf-clause-rf
returns-in_err-rf-clause-rf c = IfOk-from_err c.from_residual-in_err-rf.result _ c.from_residual-in_err-rf.ensures.0

pub sources_again-requires-clause-page : goal.sources_again-requires-clause-page
sources_again-requires-clause-page c = (length c.args.init.now, c.requires.page, c.requires.number)

pub sources_again-requires-clause-known : goal.sources_again-requires-clause-known
sources_again-requires-clause-known c =
    let n = length c.args.init.now in
    let parts = c.args.parts in
    let page = c.args.page.now in
    still_some (HasMaps n parts page) (λ k. parts.rf.items ≡ rf_at page.runs.items (k / page.orders)) c.if_alike-known.result (λ k h. h.0)
    (known_on n parts page c.args.known c.if_alike-known.result c.in_ok-again.again.alike c.requires.page c.requires.known c.if_alike-known.ensures (λ h. (c.in_ok-again.ensures.alike h).1))

pub orders_again-requires-clause-known : goal.orders_again-requires-clause-known
orders_again-requires-clause-known c =
    let n = length c.args.init.now in
    let parts = c.args.parts in
    let page = c.args.page.now in
    still_some (HasMaps n parts page) (λ k. parts.co.items ≡ orders_by n page.runs.items (k % page.orders)) c.if_alike-known.result (λ k h. h.1)
    (known_on n parts page c.args.known c.if_alike-known.result c.in_ok-again.again.alike c.requires.page c.requires.known c.if_alike-known.ensures (λ h. (c.in_ok-again.ensures.alike h).1))
