use Rattle.std.proofs.Common.{◌∙◌, ◌<◌, get_or, map, ◌≡◌, ◌+◌, rules, ℕ, List, length, take, ap, sym, subst, arith}
use Rattle.std.proofs.lemmas.List.{drop_all, get_or-take}
use Rattle.litmus_value.specs.Values.{with_values}
use Rattle.std.proofs.lemmas.Result.{err_from_is_err_and}
use Rattle.litmus_value.proofs.Distinct.{with_longer}
use Rattle.litmus_value.proofs.Sums.{next_held, full_held, held_with}
use Rattle.litmus_value.proofs.values.insert_sums.Goals as goal

pub returns-in_err-insert-clause-fault : goal.returns-in_err-insert-clause-fault
returns-in_err-insert-clause-fault c =
    let p = err_from_is_err_and c.from_residual.result c.from_residual.ensures.1 in
    rw (p.1, p.2) (full_held c.loop-place.values.items c.args.values.now.items c.loop-place.place c.index-value.result.now c.args.add _ _ (search rules) c.loop-place.invariant.held (omega (arith, c.index-value.ensures, c.from.ensures)) c.loop-place.invariant.rest c.in_err-insert.ensures.fault)

pub loop-place-preserved : goal.loop-place-preserved
loop-place-preserved c = record {
  rest = next_held c.loop-place.values.items c.args.values.now.items c.insert.new.values.items c.loop-place.place c.index-value.result.now c.args.add _ (search rules) c.loop-place.invariant.held (omega (arith, c.index-value.ensures, c.from.ensures)) c.in_ok-insert.ensures.done c.loop-place.invariant.rest;
  few = c.in_ok-insert.ensures.within;
  held = (let P : List ℕ → Type 0 = λ vs. take (length c.args.values.now.items) vs ≡ c.args.values.now.items in
      subst P (sym c.in_ok-insert.ensures.done) (held_with c.loop-place.values.items c.args.values.now.items _ c.loop-place.invariant.held c.loop-place.invariant.long));
  long = omega (arith, ap length c.in_ok-insert.ensures.done, with_longer c.loop-place.values.items (c.index-value.result.now + c.from.result), c.loop-place.invariant.long);
}

pub overflow_add-value : goal.overflow_add-value
overflow_add-value c =
    let old = c.args.values.now.items in
    let place = c.loop-place.place in
    let v = c.index-value.result.now in
    let inside : place < length old = omega (arith, c.loop-place-test.true, c.len-place-end.ensures) in
    let same : v ≡ get_or old place v = c.index-value.ensures ∙ sym (get_or-take (length old) c.loop-place.values.items place v inside) ∙ ap (λ (l : List ℕ). get_or l place v) c.loop-place.invariant.held in
    omega (arith, same, c.requires.narrow place v inside, c.from.ensures)

pub returns-clause-done : goal.returns-clause-done
returns-clause-done c =
    let values = c.loop-place.values.items in
    sym (ap (λ (vs : List ℕ). with_values values (map (λ v. v + c.args.add) vs)) (drop_all c.loop-place.place c.args.values.now.items (omega (arith, c.loop-place-test.false, c.len-place-end.ensures)))) ∙ c.loop-place.invariant.rest
