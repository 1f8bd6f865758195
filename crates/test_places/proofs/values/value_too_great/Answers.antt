use Rattle.std.proofs.Common.{refl, ◌≡◌, ◌+◌, ◌∙◌, ap, sym, take, arith}
use Rattle.std.specs.Prelude.{max}
use Rattle.test_places.specs.declared.mark.Role.TheVariants.{Constant, Added}
use Rattle.test_places.specs.Numbers.{greatest}
use Rattle.test_places.proofs.Greatest.{greatest_constant, added, greatest_is, greatest_behind, next_greatest}
use Rattle.test_places.proofs.Noting.{few_more}
use Rattle.test_places.proofs.values.value_too_great.Goals.{in-Constant, in-Added}
use Rattle.test_places.proofs.values.value_too_great.Goals as goal

pub returns-then-constant-added-gt-GREATEST_VALUE : goal.returns-then-constant-added-gt-GREATEST_VALUE
returns-then-constant-added-gt-GREATEST_VALUE c =
    let numbers = c.args.numbers.now in
    let place = c.loop-place.place in
    let next : (c.match-number.constant ≡ greatest_constant (take (place + 1) numbers)) × (c.match-number.added ≡ added (take (place + 1) numbers)) =
    elim c.match-number.branch [
      | in-Constant w ↦ next_greatest numbers place (Constant w.in-Constant.value) _ c.loop-place.constant c.loop-place.added c.match-number.constant c.match-number.added c.loop-place-test.true (sym w.in-Constant.is)
          c.loop-place.invariant.constant c.loop-place.invariant.added (w.constant-is ∙ w.max-constant.ensures ∙ ap (max c.loop-place.constant) w.from.ensures) w.added-is
      | in-Added w ↦ next_greatest numbers place (Added w.in-Added.value) _ c.loop-place.constant c.loop-place.added c.match-number.constant c.match-number.added c.loop-place-test.true (sym w.in-Added.is)
          c.loop-place.invariant.constant c.loop-place.invariant.added w.constant-is (w.added-is ∙ ap (λ n. c.loop-place.added + n) w.from-added.ensures)
    ] in
    record {
      within = c.loop-place-test.true;
      few = c.loop-place.invariant.few;
      many = omega (arith, c.if-constant-added-gt-GREATEST_VALUE.true, next.0, next.1, greatest_is (take (place + 1) numbers));
    }

pub loop-place-preserved : goal.loop-place-preserved
loop-place-preserved c =
    let numbers = c.args.numbers.now in
    let place = c.loop-place.place in
    let next : (c.match-number.constant ≡ greatest_constant (take (place + 1) numbers)) × (c.match-number.added ≡ added (take (place + 1) numbers)) =
    elim c.match-number.branch [
      | in-Constant w ↦ next_greatest numbers place (Constant w.in-Constant.value) _ c.loop-place.constant c.loop-place.added c.match-number.constant c.match-number.added c.loop-place-test.true (sym w.in-Constant.is)
          c.loop-place.invariant.constant c.loop-place.invariant.added (w.constant-is ∙ w.max-constant.ensures ∙ ap (max c.loop-place.constant) w.from.ensures) w.added-is
      | in-Added w ↦ next_greatest numbers place (Added w.in-Added.value) _ c.loop-place.constant c.loop-place.added c.match-number.constant c.match-number.added c.loop-place-test.true (sym w.in-Added.is)
          c.loop-place.invariant.constant c.loop-place.invariant.added w.constant-is (w.added-is ∙ ap (λ n. c.loop-place.added + n) w.from-added.ensures)
    ] in
    record {
      constant = next.0;
      added = next.1;
      small = omega (arith, c.if-constant-added-gt-GREATEST_VALUE.false);
      few = few_more greatest 2147483647 numbers place c.loop-place.invariant.few (omega (arith, c.if-constant-added-gt-GREATEST_VALUE.false, next.0, next.1, greatest_is (take (place + 1) numbers)));
    }

pub loop-place-preserved-in_default : goal.loop-place-preserved-in_default
loop-place-preserved-in_default c =
    let numbers = c.args.numbers.now in
    let place = c.loop-place.place in
    let kept = greatest_behind c.loop-place.constant c.loop-place.added _ c.in_default.not-Constant c.in_default.not-Added in
    let next = next_greatest numbers place _ _ c.loop-place.constant c.loop-place.added c.loop-place.constant c.loop-place.added c.loop-place-test.true refl c.loop-place.invariant.constant c.loop-place.invariant.added kept.0 kept.1 in
    record {
      constant = next.0;
      added = next.1;
      small = c.loop-place.invariant.small;
      few = few_more greatest 2147483647 numbers place c.loop-place.invariant.few (omega (arith, c.loop-place.invariant.small, next.0, next.1, greatest_is (take (place + 1) numbers)));
    }
