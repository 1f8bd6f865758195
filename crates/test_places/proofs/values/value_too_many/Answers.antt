use Rattle.std.proofs.Common.{◌≡◌, ◌≤◌, ◌<◌, ◌+◌, [], ◌∷◌, take, length, sym, subst, ◌∙◌, arith}
use Rattle.std.specs.Prelude.{◌^◌, All, fold, MatchBool, Bool}
use Rattle.litmus_value.specs.Values.{with_sums}
use Rattle.test_places.specs.Numbers.{with_constant, with_added, values}
use Rattle.test_places.proofs.Noting.{noted, skipped, values_are, few_more}
use Rattle.test_places.proofs.values.value_too_many.Goals as goal

pub loop-place-preserved-then-not-is_number : goal.loop-place-preserved-then-not-is_number
loop-place-preserved-then-not-is_number c =
    let numbers = c.args.numbers.now in
    let place = c.loop-place.place in
    let constants : c.loop-place.constants.items ≡ fold with_constant (0 ∷ 1 ∷ []) (take (place + 1) numbers) =
    skipped with_constant (0 ∷ 1 ∷ []) numbers place _ c.loop-place.constants.items c.loop-place-test.true c.loop-place.invariant.constants (c.is_number.ensures.constants c.loop-place.constants.items c.if-not-is_number.true) in
    let adds : c.loop-place.adds.items ≡ fold with_added [] (take (place + 1) numbers) =
    skipped with_added [] numbers place _ c.loop-place.adds.items c.loop-place-test.true c.loop-place.invariant.adds (c.is_number.ensures.adds c.loop-place.adds.items c.if-not-is_number.true) in
    record {
      constants = constants;
      adds = adds;
      narrow = c.loop-place.invariant.narrow;
      few = few_more values 16 numbers place c.loop-place.invariant.few (omega (
        arith,
        c.loop-place.invariant.few place (omega arith),
        values_are (take (place + 1) numbers) c.loop-place.constants.items c.loop-place.adds.items constants adds,
        values_are (take place numbers) c.loop-place.constants.items c.loop-place.adds.items c.loop-place.invariant.constants c.loop-place.invariant.adds,
      ));
    }

pub are_many-requires : goal.are_many-requires
are_many-requires c = subst (λ vs. All (λ v. v < 2 ^ 32) vs) (sym c.deref.ensures.value) c.in_ok-note.ensures.narrow

pub loop-place-preserved : goal.loop-place-preserved
loop-place-preserved c =
    let numbers = c.args.numbers.now in
    let place = c.loop-place.place in
    let constants : c.note.new.constants.items ≡ fold with_constant (0 ∷ 1 ∷ []) (take (place + 1) numbers) =
    noted with_constant (0 ∷ 1 ∷ []) numbers place _ c.loop-place.constants.items c.note.new.constants.items c.loop-place-test.true c.loop-place.invariant.constants c.in_ok-note.ensures.constants in
    let adds : c.note.new.adds.items ≡ fold with_added [] (take (place + 1) numbers) =
    noted with_added [] numbers place _ c.loop-place.adds.items c.note.new.adds.items c.loop-place-test.true c.loop-place.invariant.adds c.in_ok-note.ensures.adds in
    let seen : length (with_sums c.deref.result.now c.deref-in-loop-place.result.now) ≤ 16 =
    (let P : Bool → Type 0 = λ b. MatchBool b (16 < length (with_sums c.deref.result.now c.deref-in-loop-place.result.now)) (length (with_sums c.deref.result.now c.deref-in-loop-place.result.now) ≤ 16) in subst P c.if-branch.false c.in_ok-are_many.ensures) in
    record {
      constants = constants;
      adds = adds;
      narrow = c.in_ok-note.ensures.narrow;
      few = few_more values 16 numbers place c.loop-place.invariant.few (omega (arith, seen, values_are (take (place + 1) numbers) c.deref.result.now c.deref-in-loop-place.result.now (c.deref.ensures.value ∙ constants) (c.deref-in-loop-place.ensures.value ∙ adds)));
    }

pub returns-then-branch : goal.returns-then-branch
returns-then-branch c =
    let numbers = c.args.numbers.now in
    let place = c.loop-place.place in
    let constants : c.note.new.constants.items ≡ fold with_constant (0 ∷ 1 ∷ []) (take (place + 1) numbers) =
    noted with_constant (0 ∷ 1 ∷ []) numbers place _ c.loop-place.constants.items c.note.new.constants.items c.loop-place-test.true c.loop-place.invariant.constants c.in_ok-note.ensures.constants in
    let adds : c.note.new.adds.items ≡ fold with_added [] (take (place + 1) numbers) =
    noted with_added [] numbers place _ c.loop-place.adds.items c.note.new.adds.items c.loop-place-test.true c.loop-place.invariant.adds c.in_ok-note.ensures.adds in
    let seen : 16 < length (with_sums c.deref.result.now c.deref-in-loop-place.result.now) =
    (let P : Bool → Type 0 = λ b. MatchBool b (16 < length (with_sums c.deref.result.now c.deref-in-loop-place.result.now)) (length (with_sums c.deref.result.now c.deref-in-loop-place.result.now) ≤ 16) in subst P c.if-branch.true c.in_ok-are_many.ensures) in
    record {
      within = c.loop-place-test.true;
      few = c.loop-place.invariant.few;
      many = omega (arith, seen, values_are (take (place + 1) numbers) c.deref.result.now c.deref-in-loop-place.result.now (c.deref.ensures.value ∙ constants) (c.deref-in-loop-place.ensures.value ∙ adds));
    }

pub note-requires : goal.note-requires
note-requires c = c.loop-place.invariant.narrow
