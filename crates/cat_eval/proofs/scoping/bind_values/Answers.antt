use Rattle.std.proofs.Common.{◌≡◌, ◌+◌, ◌++◌, ℕ, List, length, map, take, refl, subst, arith, sym, ◌∙◌, ap}
use Rattle.std.proofs.lemmas.List.{append-nil, append_assoc, length-append, take_all}
use Rattle.cat_tree.specs.Tree as trees
use Rattle.cat_tree.specs.Tree.{defined_of, values_in}
use Rattle.cat_tree.specs.declared.tree.Definition.{Definition}
use Rattle.cat_eval.specs.Lowered.{Replace}
use Rattle.cat_eval.specs.Planned.{value_of, run_from}
use Rattle.cat_eval.specs.Replacing.{Replacing, with_value_texts}
use Rattle.cat_eval.proofs.Past.{number_more}
use Rattle.cat_eval.proofs.Scoped.{values_next, values_short, values_both, run_both}
use Rattle.cat_eval.proofs.scoping.bind_values.Goals as goal

pub bind_if_value-requires : goal.bind_if_value-requires
bind_if_value-requires c =
    let i : ℕ = c.loop-definition.definition-index in
    let ds = c.args.definitions.now in
    let more = length-append (values_in (map defined_of (take i ds))) (value_of (defined_of c.definition-item.result)) in
    let next = ap length (values_next ds i c.definition-item.result c.loop-definition-test.true c.definition-item.is) in
    let short = values_short ds (i + 1) in
    let p = c.loop-definition.invariant.place in
    let r = c.requires in
    omega (arith, more, next, short, p, r)

pub loop-definition-preserved : goal.loop-definition-preserved
loop-definition-preserved c =
    let i : ℕ = c.loop-definition.definition-index in
    let ds = c.args.definitions.now in
    let d = c.definition-item.result in
    let done : List trees.Bound = values_in (map defined_of (take i ds)) in
    let one : List trees.Bound = value_of (defined_of d) in
    let next = values_next ds i d c.loop-definition-test.true c.definition-item.is in
    let more = length-append done one in
    let long = ap length next in
    let inv = c.loop-definition.invariant in
    let p = inv.place in
    let q = c.in_ok-place.ensures.place in
    let old = c.args.values.now.items in
    let n : length c.loop-definition.values.items ≡ length old + length done = number_more old c.loop-definition.values.items c.args.from (length done) inv.values in
    record {
      place = omega (arith, more, long, p, q);
      values = c.in_ok-place.ensures.values ∙ ap (λ vs. vs ++ run_from c.loop-definition.place (length one)) inv.values ∙ append_assoc old (run_from c.args.from (length done)) (run_from c.loop-definition.place (length one)) ∙
          ap (λ k. old ++ (run_from c.args.from (length done) ++ run_from k (length one))) p ∙ ap (λ vs. old ++ vs) (sym (run_both c.args.from (length done) (length one))) ∙ ap (λ k. old ++ run_from c.args.from k) (sym more ∙ sym long);
      replace = λ fs R h.
          (let P : Replacing → Type 0 = λ S. Replace fs c.bind_if_value.new.names.items S in
          let S : Replacing = with_value_texts (length old) done R in
          subst P (ap (λ k. with_value_texts k one S) n ∙ sym (values_both (length old) done one R) ∙ ap (λ bs. with_value_texts (length old) bs R) (sym next))
          (c.in_ok-place.ensures.replace fs S (inv.replace fs R h)));
      bound = λ m h. c.in_ok-place.ensures.bound m (inv.bound m h);
      kept = λ m l.
          (let a = inv.kept m l in
          let e = c.in_ok-place.ensures.kept m a.0 in
          (e.0, e.1 ∙ a.1));
    }

pub loop-definition-init : goal.loop-definition-init
loop-definition-init c = record { place = omega arith; values = sym (append-nil c.args.values.now.items); replace = λ fs R h. h; bound = λ n h. h; kept = λ n l. (l, refl) }

pub returns-clause-values : goal.returns-clause-values
returns-clause-values c =
    let P : List Definition → Type 0 = λ ds. c.loop-definition.values.items ≡ c.args.values.now.items ++ run_from c.args.from (length (values_in (map defined_of ds))) in
    subst P (take_all c.loop-definition.definition-index c.args.definitions.now c.loop-definition-test.false) c.loop-definition.invariant.values

pub returns-clause-replace : goal.returns-clause-replace
returns-clause-replace c = λ fs R h.
    (let P : List Definition → Type 0 = λ ds. Replace fs c.loop-definition.names.items (with_value_texts (length c.args.values.now.items) (values_in (map defined_of ds)) R) in
    subst P (take_all c.loop-definition.definition-index c.args.definitions.now c.loop-definition-test.false) (c.loop-definition.invariant.replace fs R h))

pub returns-clause-bound : goal.returns-clause-bound
returns-clause-bound c = c.loop-definition.invariant.bound

pub returns-clause-kept : goal.returns-clause-kept
returns-clause-kept c = c.loop-definition.invariant.kept
