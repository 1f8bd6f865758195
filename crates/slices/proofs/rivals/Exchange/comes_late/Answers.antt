use Rattle.std.proofs.Common.{List, [], ◌∷◌, sym, subst}
use Rattle.std.proofs.lemmas.Result.{IfOk-weaker}
use Rattle.cat_tree.specs.Tree.{Clause}
use Rattle.events.specs.declared.event.EventId.{EventId}
use Rattle.events.specs.Structures.{structure_of}
use Rattle.slices.specs.Reasons.{HasSources, IsRefuted}
use Rattle.slices.proofs.rivals.Exchange.comes_late.Goals as goal

pub returns-clause-late : goal.returns-clause-late
returns-clause-late c =
    let e = c.args.self in
    let s = structure_of c.args.graph.now in
    let P : List Clause → Type 0 = λ z. IsRefuted z s c.deref-2.result.now (e.write ∷ c.args.source ∷ []) in
    IfOk-weaker c.is_refuted-2.result _ _ (λ known r t. (
      (λ x same reads part. (let Q : List EventId → Type 0 = λ z. HasSources z x in c.in_ok-is_refuted.ensures.refuted c.if-not-branch.false x same (subst Q (sym c.deref.ensures.value) (c.in_ok-sources.ensures x reads)) part)),
      (λ x same reads part. (let Q : List EventId → Type 0 = λ z. HasSources z x in (subst P c.is_refuted.ensures.model (r t)) x same (subst Q (sym c.deref-2.ensures.value) (c.in_ok-sources.ensures x reads)) part)),
    )) c.is_refuted-2.ensures.refuted
