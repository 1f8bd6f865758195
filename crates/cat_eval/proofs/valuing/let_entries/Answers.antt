use Rattle.std.proofs.Common.{◌≡◌, ◌+◌, ◌∙◌, ◌++◌, ℕ, List, length, map, take, arith, ap, append-nil, sym, subst}
use Rattle.std.proofs.lemmas.List.{length-append}
use Rattle.cat_tree.specs.Tree as trees
use Rattle.cat_tree.specs.Tree.{defined_of, values_in}
use Rattle.cat_eval.specs.Code.{at}
use Rattle.cat_eval.specs.Planned.{value_of}
use Rattle.cat_eval.specs.Outcomes.{entries_from}
use Rattle.cat_eval.proofs.Accounts.{entries_long, entries_next}
use Rattle.cat_eval.proofs.Scoped.{is_zero, no_names, not_zero, value_none, value_one, values_next, values_short}
use Rattle.cat_eval.proofs.valuing.let_entries.Goals as goal
use Rattle.cat_eval.proofs.valuing.let_entries.Goals.{then-is_empty+in_ok-entry+in_ok-push, else-is_empty}

pub entry-requires : goal.entry-requires
entry-requires c =
    let i : ℕ = c.loop-definition.definition-index in
    let d = c.definition-item.result in
    let before = values_in (map defined_of (take i c.args.definitions.now)) in
    let next : length (values_in (map defined_of (take (i + 1) c.args.definitions.now))) ≡ length before + length (value_of (defined_of d)) =
    ap length (values_next c.args.definitions.now i d c.loop-definition-test.true c.definition-item.is) ∙ length-append before (value_of (defined_of d)) in
    let none = is_zero _ (sym c.is_empty.ensures ∙ c.if-is_empty.true) in
    let one : length (value_of (defined_of d)) ≡ 1 = ap length (value_one (defined_of d) (no_names d.parameters.items (let e : length d.parameters.items ≡ 0 = omega (arith, none) in e))) in
    let short = values_short c.args.definitions.now (i + 1) in
    let long : length c.loop-definition.entries.items ≡ length before = ap length c.loop-definition.invariant ∙ entries_long before c.args.from c.args.values.now in
    let len = c.len.ensures in
    let r = c.requires in
    omega (arith, next, one, short, long, len, r)

pub loop-definition-preserved : goal.loop-definition-preserved
loop-definition-preserved c =
    let i : ℕ = c.loop-definition.definition-index in
    let d = c.definition-item.result in
    let vs = c.args.values.now in
    let ds = c.args.definitions.now in
    let before : List trees.Bound = values_in (map defined_of (take i ds)) in
    let next = values_next ds i d c.loop-definition-test.true c.definition-item.is in
    let inv = c.loop-definition.invariant in
    elim c.if-is_empty.branch [
      | then-is_empty+in_ok-entry+in_ok-push w ↦ (
          let none = is_zero _ (sym c.is_empty.ensures ∙ w.if-is_empty.true) in
          let one = value_one (defined_of d) (no_names d.parameters.items (let e : length d.parameters.items ≡ 0 = omega (arith, none) in e)) in
          let bound : trees.Bound = record { name = (defined_of d).name; value = (defined_of d).value } in
          let es = c.loop-definition.entries.items in
          let V : ℕ → Type 0 = λ n. w.in_ok-entry.field-0.value ≡ at vs (c.args.from + n) in
          let long : w.len.result ≡ length es = (let l = w.len.ensures in omega (arith, l)) in
          let items : c.if-is_empty.entries.items ≡ w.push.new.self.items = ap (λ v. v.items) w.entries-is in
          items ∙
          entries_next before (values_in (map defined_of (take (i + 1) ds))) bound c.args.from vs es w.push.new.self.items w.in_ok-entry.field-0 (next ∙ ap (λ bs. before ++ bs) one) inv w.in_ok-push.ensures.items w.in_ok-entry.ensures.name
          (subst V long w.in_ok-entry.ensures.value)
          )
      | else-is_empty w ↦ (
          let none = value_none (defined_of d) (λ e. not_zero _ (sym c.is_empty.ensures ∙ w.if-is_empty.false) (let z = ap length e in omega (arith, z))) in
          ap (λ v. v.items) w.entries-is ∙ inv ∙ ap (λ bs. entries_from bs c.args.from vs) (sym (append-nil before) ∙ ap (λ bs. before ++ bs) (sym none) ∙ sym next)
          )
    ]
