use Rattle.std.proofs.Common.{take, subst, ap, ◌∙◌}
use Rattle.cat_eval.specs.Judging.{First}
use Rattle.cat_eval.specs.Outcomes.{AreOutcomes}
use Rattle.events.specs.Executions.{GraphValue}
use Rattle.events.specs.Named.{event_count}
use Rattle.listings.specs.Lists.{Lists}
use Rattle.witness.specs.Labels.{IsWritten, all_labelled, named_relations}
use Rattle.witness.proofs.Labelled.{cut_as, cut_short, enough, labels_exact, labels_ordered}
use Rattle.witness.proofs.labelling.labels.Goals as goal

pub slice_bounds-bind_all-end : goal.slice_bounds-bind_all-end
slice_bounds-bind_all-end c = cut_short _ _ _ c.args.before _ c.items.ensures.value c.items-2.ensures.value c.min-count.ensures

pub bind_all-requires : goal.bind_all-requires
bind_all-requires c = enough c.in_ok-view.view _ _ _ c.in_ok-account.account.outcomes.items _ c.args.before _ c.items.ensures.value c.items-2.ensures.value c.min-count.ensures c.in_ok-account.ensures.outcomes c.deref.ensures.value

pub returns-clause-exact : goal.returns-clause-exact
returns-clause-exact c =
    let H : GraphValue → Type 0 = λ g. AreOutcomes (event_count g) (First g) c.args.model.now.items c.in_ok-account.account.outcomes.items in
    let N : GraphValue → Type 0 = λ g. Lists (IsWritten g c.args.from c.args.to named_relations) c.in_ok-names.names.items in
    let first = cut_as _ _ _ c.args.before _ c.items.ensures.value c.items-2.ensures.value c.min-count.ensures in
    labels_exact c.args.model.now.items c.args.graph.now c.args.from c.args.to c.args.before c.in_ok-account.account.outcomes.items c.in_ok-names.names.items _ c.one_value.ensures c.one_least.ensures
    (subst H c.in_ok-view.ensures c.in_ok-account.ensures.outcomes) (subst N c.in_ok-view.ensures c.in_ok-names.ensures.exact)
    (c.in_ok-bind_all.ensures ∙ ap (λ items. all_labelled c.args.from c.args.to items c.deref.result.now c.in_ok-names.names.items) first ∙ ap (λ os. all_labelled c.args.from c.args.to (take c.args.before c.args.model.now.items) os c.in_ok-names.names.items) c.deref.ensures.value)

pub returns-clause-ordered : goal.returns-clause-ordered
returns-clause-ordered c =
    let H : GraphValue → Type 0 = λ g. AreOutcomes (event_count g) (First g) c.args.model.now.items c.in_ok-account.account.outcomes.items in
    let first = cut_as _ _ _ c.args.before _ c.items.ensures.value c.items-2.ensures.value c.min-count.ensures in
    labels_ordered c.args.model.now.items c.args.graph.now c.args.from c.args.to c.args.before c.in_ok-account.account.outcomes.items c.in_ok-names.names.items _
    (subst H c.in_ok-view.ensures c.in_ok-account.ensures.outcomes) c.in_ok-names.ensures.ordered
    (c.in_ok-bind_all.ensures ∙ ap (λ items. all_labelled c.args.from c.args.to items c.deref.result.now c.in_ok-names.names.items) first ∙ ap (λ os. all_labelled c.args.from c.args.to (take c.args.before c.args.model.now.items) os c.in_ok-names.names.items) c.deref.ensures.value)
