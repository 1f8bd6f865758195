use Rattle.std.proofs.Common.{◌↔◌, List, map, arith, subst}
use Rattle.std.specs.List.{Contains}
use Rattle.cat_model.specs.Marked.{Composes}
use Rattle.cat_model.specs.declared.denials.Trace.{Trace}
use Rattle.cat_model.proofs.Members.{ok_if}
use Rattle.cat_model.proofs.denials.trace_body.Goals as goal

pub returns : goal.returns
returns c =
    ok_if c.compose.result _ _
    (λ v h q. (let P : List Trace → Type 0 = λ l. Contains v.items q ↔ Composes l (map (λ a. a.items) c.args.arguments.now) q in
    let f = subst P c.deref.ensures.value (h q) in
    let l = c.if-arguments-marked.false in
    (λ x. (omega (arith, l), f.0 x), λ x. f.1 x.1))) c.compose.ensures
