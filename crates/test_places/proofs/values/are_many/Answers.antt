use Rattle.std.proofs.Common.{◌<◌, ◌+◌, ◌*◌, ℕ, List, drop, get_or, length, ap, sym, subst, ◌∙◌, arith, ◌≡◌, rules}
use Rattle.std.specs.Prelude.{◌^◌, All}
use Rattle.litmus_value.specs.Values.{with_sums}
use Rattle.litmus_value.proofs.Bounds.{sums_below}
use Rattle.litmus_value.proofs.Sums.{next_sums, longer_sums}
use Rattle.std.proofs.lemmas.List.{drop_all}
use Rattle.test_places.proofs.values.are_many.Goals as goal

pub returns-then-len-gt-MOST_VALUES : goal.returns-then-len-gt-MOST_VALUES
returns-then-len-gt-MOST_VALUES c = omega (arith, c.if-len-gt-MOST_VALUES.true, c.len.ensures, longer_sums c.loop-place.values.items (drop c.loop-place.place c.args.adds.now), ap length c.loop-place.invariant.rest)

pub loop-place-preserved : goal.loop-place-preserved
loop-place-preserved c = record {
  rest = ap (λ vs. with_sums vs (drop (c.loop-place.place + 1) c.args.adds.now)) c.in_ok-insert_sums.ensures ∙ sym (next_sums c.loop-place.values.items c.args.adds.now c.loop-place.place 0 c.loop-place-test.true) ∙ c.loop-place.invariant.rest;
  narrow = (let P : List ℕ → Type 0 = λ vs. All (λ v. v < (c.loop-place.place + 1 + 1) * 2 ^ 32) vs in
      subst P (sym c.in_ok-insert_sums.ensures) (sums_below c.loop-place.values.items (get_or c.args.adds.now c.loop-place.place 0) ((c.loop-place.place + 1) * 2 ^ 32) ((c.loop-place.place + 1 + 1) * 2 ^ 32)
      c.loop-place.invariant.narrow (omega (arith, c.type_inv.adds c.loop-place.place)) (omega arith)));
}

pub returns : goal.returns
returns c =
    let sums = rw (drop_all c.loop-place.place c.args.adds.now c.loop-place-test.false) at c.loop-place.invariant.rest in
    let many : c.len-2.result ≡ length (with_sums c.args.constants.now c.args.adds.now) = omega (arith, c.len-2.ensures, ap length sums) in
    rw (← many) (search rules)
