use Rattle.std.proofs.Common.{◌<◌, ◌∙◌, List, length, arith, subst, sym}
use Rattle.cat_eval.specs.Judging.{First}
use Rattle.cat_eval.specs.declared.valuing.Outcome.{Outcome}
use Rattle.events.specs.Named.{event_count}
use Rattle.witness.specs.Reasons.{FailsFirst, Permit}
use Rattle.witness.proofs.Explained.{first_below, forbidden, forbids, item_below, not_all, told}
use Rattle.witness.proofs.explaining.reason_in.Goals as goal

pub offset_bounds-items-number : goal.offset_bounds-items-number
offset_bounds-items-number c =
    let g = c.args.view.now in
    let os = c.in_ok-account.account.outcomes.items in
    let F : List Outcome → Type 0 = FailsFirst c.in-Some.number in
    let l : c.in-Some.number < length c.items.result.now = item_below (event_count g) (First g) c.items.result.now c.args.model.now.items os c.in-Some.number c.items.ensures.value c.in_ok-account.ensures.outcomes (subst F c.deref.ensures.value c.in-Some.ensures) in
    record { fits = omega (arith, l, c.items.type_inv.1) }

pub bounds-items-number : goal.bounds-items-number
bounds-items-number c =
    let g = c.args.view.now in
    let os = c.in_ok-account.account.outcomes.items in
    let F : List Outcome → Type 0 = FailsFirst c.in-Some.number in
    item_below (event_count g) (First g) c.items.result.now c.args.model.now.items os c.in-Some.number c.items.ensures.value c.in_ok-account.ensures.outcomes (subst F c.deref.ensures.value c.in-Some.ensures)

pub index-outcome-requires : goal.index-outcome-requires
index-outcome-requires c =
    let l : c.in-Some.number < length c.deref.result.now = first_below c.in-Some.number c.deref.result.now c.in-Some.ensures in
    omega (arith, l, c.deref.ensures.len)

pub explain-requires : goal.explain-requires
explain-requires c =
    let g = c.args.view.now in
    let os = c.in_ok-account.account.outcomes.items in
    let F : List Outcome → Type 0 = FailsFirst c.in-Some.number in
    forbids (event_count g) (First g) c.items.result.now c.args.model.now.items os c.in-Some.number c.index-items-number.result c.index-outcome.result.now c.items.ensures.value c.in_ok-account.ensures.outcomes (subst F c.deref.ensures.value c.in-Some.ensures) c.index-items-number.is c.index-outcome.ensures

pub unreachable-requires : goal.unreachable-requires
unreachable-requires c =
    let os = c.in_ok-account.account.outcomes.items in
    let P : List Outcome → Type 0 = Permit in
    not_all c.args.view.now c.args.model.now.items os c.in_ok-account.account.judgement.allowed c.in_ok-account.ensures.outcomes c.in_ok-account.ensures.allowed (sym c.allowed.ensures ∙ c.if-allowed.false) (subst P c.deref.ensures.value c.in-None.ensures)

pub returns : goal.returns
returns c =
    let os = c.in_ok-account.account.outcomes.items in
    let F : List Outcome → Type 0 = FailsFirst c.in-Some.number in
    let not_allowed = forbidden c.args.view.now c.args.model.now.items c.in_ok-account.account.judgement.allowed c.in_ok-account.ensures.allowed (sym c.allowed.ensures ∙ c.if-allowed.false) in
    (not_allowed, told c.args.view.now c.items.result.now c.args.model.now.items os c.in-Some.number c.index-items-number.result c.index-outcome.result.now c.in_ok-explain-in-Some.field-0 c.items.ensures.value c.in_ok-account.ensures.outcomes (subst F c.deref.ensures.value c.in-Some.ensures) c.index-items-number.is c.index-outcome.ensures c.in_ok-explain-in-Some.ensures)
