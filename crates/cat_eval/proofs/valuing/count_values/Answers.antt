use Rattle.std.proofs.Common.{◌≡◌, ◌+◌, ◌∙◌, ℕ, length, map, take, arith, ap, sym}
use Rattle.std.proofs.lemmas.List.{length-append}
use Rattle.cat_tree.specs.Tree.{defined_of, values_in}
use Rattle.cat_eval.specs.Planned.{value_of}
use Rattle.cat_eval.proofs.Scoped.{is_zero, no_names, not_zero, value_none, value_one, values_next}
use Rattle.cat_eval.proofs.valuing.count_values.Goals as goal
use Rattle.cat_eval.proofs.valuing.count_values.Goals.{then-is_empty, else-is_empty}

pub loop-definition-preserved : goal.loop-definition-preserved
loop-definition-preserved c =
    let i : ℕ = c.loop-definition.definition-index in
    let d = c.definition-item.result in
    let before = values_in (map defined_of (take i c.args.definitions.now)) in
    let next : length (values_in (map defined_of (take (i + 1) c.args.definitions.now))) ≡ length before + length (value_of (defined_of d)) =
    ap length (values_next c.args.definitions.now i d c.loop-definition-test.true c.definition-item.is) ∙ length-append before (value_of (defined_of d)) in
    let inv = c.loop-definition.invariant.count in
    let few = c.loop-definition.invariant.few in
    elim c.if-is_empty.branch [
      | then-is_empty w ↦ (
          let none = is_zero _ (sym c.is_empty.ensures ∙ w.if-is_empty.true) in
          let one : length (value_of (defined_of d)) ≡ 1 = ap length (value_one (defined_of d) (no_names d.parameters.items (let e : length d.parameters.items ≡ 0 = omega (arith, none) in e))) in
          let is = w.count-is in
          record { count = omega (arith, next, inv, one, is); few = omega (arith, few, is) }
          )
      | else-is_empty w ↦ (
          let none : length (value_of (defined_of d)) ≡ 0 = ap length (value_none (defined_of d) (λ e. not_zero _ (sym c.is_empty.ensures ∙ w.if-is_empty.false) (let z = ap length e in omega (arith, z)))) in
          let is = w.count-is in
          record { count = omega (arith, next, inv, none, is); few = omega (arith, few, is) }
          )
    ]
