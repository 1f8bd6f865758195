use Rattle.std.proofs.Common.{◌≡◌, ◌∙◌, List, map, sym, ap, subst}
use Rattle.std.proofs.lemmas.Bool.{false≢true}
use Rattle.cat_tree.specs.Tree.{Clause}
use Rattle.cat_model.specs.Scopes.{IsModel}
use Rattle.cat_eval.specs.declared.workings.Workings.{Workings}
use Rattle.cat_eval.specs.Code.{planned_clause}
use Rattle.cat_eval.proofs.Chosen.{work_too}
use Rattle.cat_eval.proofs.prepared.Prepared.with_model.Goals as goal

pub invariant_of-result : goal.invariant_of-result
invariant_of-result c =
    let ps = c.requires.planned in
    let qs = c.in_ok-items.items.items in
    let clauses : map planned_clause qs ≡ c.args.model.now.items = c.in_ok-items.ensures.clauses ∙ c.items.ensures.value in
    let M : List Clause → Type 0 = λ cs. IsModel cs in
    let works = work_too ps qs c.args.self.choice (c.requires.clauses ∙ sym clauses) (c.requires.works.used.item_steps ∙ sym (c.in_ok-items.ensures.item_steps ∙ c.deref-2.ensures.value ∙ ap (λ (w : Workings). w.item_steps.items) c.deref.ensures)) c.requires.works in
    record {
      model = subst M (sym clauses) c.requires.model;
      works = record { used = works.used; others = works.others; whole = works.whole };
      served = λ t. absurd (false≢true t);
      relies = λ t. absurd (false≢true t);
    }
