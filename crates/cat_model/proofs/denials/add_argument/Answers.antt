use Rattle.std.proofs.Common.{◌↔◌, ◌⊎◌, ◌∙◌, List, map, subst, rules}
use Rattle.std.specs.Prelude.{OnOk}
use Rattle.std.specs.List.{Contains}
use Rattle.cat_model.specs.Marked.{trace_if}
use Rattle.cat_model.specs.declared.denials.Trace.{Trace}
use Rattle.cat_model.proofs.Members.{looked_up}
use Rattle.cat_model.proofs.denials.add_argument.Goals as goal

pub returns-in-Some-clause-added : goal.returns-in-Some-clause-added
returns-in-Some-clause-added c =
    let P : List Trace → Type 0 = λ l. OnOk c.add_inner.result ((q : Trace) → Contains c.add_inner.new.once.listed.items q ↔ (Contains c.args.once.now.listed.items q ⊎ Contains (map (trace_if c.args.trace.denied) l) q)) in
    subst P (c.deref.ensures.value ∙ looked_up c.args.arguments.now c.args.trace.place c.in-Some.argument.now (search rules)) c.add_inner.ensures.added
