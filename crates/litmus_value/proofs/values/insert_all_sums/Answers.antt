use Rattle.std.proofs.Common.{◌<◌, ◌+◌, ◌*◌, ℕ, List, drop, get_or, ap, sym, subst, ◌∙◌, arith}
use Rattle.std.specs.Prelude.{◌^◌, All}
use Rattle.std.proofs.lemmas.Result.{err_from_is_err_and}
use Rattle.litmus_value.specs.Gathering.{IsFull}
use Rattle.litmus_value.specs.Values.{with_sum, with_sums}
use Rattle.litmus_value.proofs.Bounds.{sums_below}
use Rattle.litmus_value.proofs.Sums.{next_sums, full_sums}
use Rattle.litmus_value.proofs.values.insert_all_sums.Goals as goal

pub returns-in_err-insert_sums-clause-fault : goal.returns-in_err-insert_sums-clause-fault
returns-in_err-insert_sums-clause-fault c =
    let p = err_from_is_err_and c.from_residual.result c.from_residual.ensures.1 in
    let Q : List ℕ → Type 0 = λ vs. IsFull vs c.in_err-insert_sums.field-0.0 in
    rw (p.1, p.2) (subst Q (sym (next_sums c.loop-place.values.items c.args.adds.now c.loop-place.place 0 c.loop-place-test.true) ∙ c.loop-place.invariant.rest)
    (full_sums (with_sum c.loop-place.values.items (get_or c.args.adds.now c.loop-place.place 0)) (drop (c.loop-place.place + 1) c.args.adds.now) _ c.in_err-insert_sums.ensures.fault))

pub loop-place-preserved : goal.loop-place-preserved
loop-place-preserved c = record {
  rest = ap (λ vs. with_sums vs (drop (c.loop-place.place + 1) c.args.adds.now)) c.in_ok-insert_sums.ensures.done ∙ sym (next_sums c.loop-place.values.items c.args.adds.now c.loop-place.place 0 c.loop-place-test.true) ∙ c.loop-place.invariant.rest;
  few = c.in_ok-insert_sums.ensures.within;
  narrow = (let P : List ℕ → Type 0 = λ vs. All (λ v. v < (c.loop-place.place + 1 + 1) * 2 ^ 32) vs in
      subst P (sym c.in_ok-insert_sums.ensures.done) (sums_below c.loop-place.values.items (get_or c.args.adds.now c.loop-place.place 0) ((c.loop-place.place + 1) * 2 ^ 32) ((c.loop-place.place + 1 + 1) * 2 ^ 32)
      c.loop-place.invariant.narrow (omega (arith, c.type_inv.adds c.loop-place.place)) (omega arith)));
}
