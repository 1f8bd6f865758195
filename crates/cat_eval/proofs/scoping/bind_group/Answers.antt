use Rattle.std.proofs.Common.{◌+◌, ℕ, List, length, map, take, refl, sym, subst, ◌∙◌}
use Rattle.std.proofs.lemmas.List.{append-nil, take_all}
use Rattle.cat_tree.specs.Tree.{bound_of}
use Rattle.cat_tree.specs.declared.tree.Binding.{Binding}
use Rattle.cat_eval.specs.Lowered.{Replace}
use Rattle.cat_eval.specs.Replacing.{Replacing, with_value_texts}
use Rattle.cat_eval.proofs.Past.{number_more}
use Rattle.cat_eval.proofs.Scoped.{group_values, group_replaced}
use Rattle.cat_eval.proofs.scoping.bind_group.Goals as goal

pub loop-number-preserved : goal.loop-number-preserved
loop-number-preserved c =
    let i : ℕ = c.loop-number.number in
    let bs = c.args.bindings.now in
    let b : Binding = c.index-bindings-number.result in
    let k : ℕ = length c.args.values.now.items in
    let n = number_more c.args.values.now.items c.loop-number.values.items c.args.from i c.loop-number.invariant.values in
    record {
      values = group_values c.args.values.now.items c.loop-number.values.items c.bind_value.new.values.items c.args.from i (c.args.from + i) c.loop-number.invariant.values refl c.in_ok-bind_value.ensures.values;
      replace = λ fs R h.
          (let P : Replacing → Type 0 = λ S. Replace fs c.bind_value.new.names.items S in
          subst P (group_replaced k (length c.loop-number.values.items) bs i b R c.loop-number-test.true c.index-bindings-number.is n)
          (c.in_ok-bind_value.ensures.replace fs (with_value_texts k (map bound_of (take i bs)) R) (c.loop-number.invariant.replace fs R h)));
      bound = λ m h. c.in_ok-bind_value.ensures.bound m (c.loop-number.invariant.bound m h);
      kept = λ m l.
          (let a = c.loop-number.invariant.kept m l in
          let d = c.in_ok-bind_value.ensures.kept m a.0 in
          (d.0, d.1 ∙ a.1));
    }

pub loop-number-init : goal.loop-number-init
loop-number-init c = record { values = sym (append-nil c.args.values.now.items); replace = λ fs R h. h; bound = λ n h. h; kept = λ n l. (l, refl) }

pub returns-clause-replace : goal.returns-clause-replace
returns-clause-replace c = λ fs R h.
    (let P : List Binding → Type 0 = λ bs. Replace fs c.loop-number.names.items (with_value_texts (length c.args.values.now.items) (map bound_of bs) R) in
    subst P (take_all c.loop-number.number c.args.bindings.now c.loop-number-test.false) (c.loop-number.invariant.replace fs R h))

pub returns-clause-bound : goal.returns-clause-bound
returns-clause-bound c = c.loop-number.invariant.bound

pub returns-clause-kept : goal.returns-clause-kept
returns-clause-kept c = c.loop-number.invariant.kept
