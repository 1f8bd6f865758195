use Rattle.std.specs.Prelude.{not}
use Rattle.std.specs.List.{list_any}
use Rattle.std.proofs.Common.{sym, ◌∙◌, ap}
use Rattle.cat_eval.specs.Orderless.{clause_names_order}
use Rattle.cat_eval.proofs.Alike.{orderless, items_told}
use Rattle.cat_eval.proofs.orderless.is_orderless.Goals as goal

pub returns-clause-named : goal.returns-clause-named
returns-clause-named c = ap not (c.items_name_order.ensures ∙ items_told c.items.result.now ∙ ap (list_any clause_names_order) c.items.ensures.value)

pub returns-clause-orderless : goal.returns-clause-orderless
returns-clause-orderless c = λ t. orderless c.bases.ensures.counts c.bases.ensures.sets c.bases.ensures.runs c.bases.ensures.sources c.args.model.now.items (sym (returns-clause-named c) ∙ t)
