use Rattle.std.proofs.Common.{length, map, sym, rules}
use Rattle.std.proofs.lemmas.List.{length-map}
use Rattle.cat_model.proofs.Members.{ok_if}
use Rattle.cat_model.proofs.Tracing.{outer_function}
use Rattle.cat_model.proofs.denials.trace_outer.Goals as goal

pub returns-in-Some-Function : goal.returns-in-Some-Function
returns-in-Some-Function c =
    ok_if c.trace_body.result _ _
    (λ v h. outer_function _ c.in-Some-Function.summary (map (λ a. a.items) c.args.arguments.now) (length c.args.arguments.now) v.items (search rules) (sym (length-map c.args.arguments.now (λ a. a.items))) h) c.trace_body.ensures
