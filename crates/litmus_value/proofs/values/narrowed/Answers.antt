use Rattle.std.proofs.Common.{List, subst, rules, ℕ, ◌≤◌, [], ◌∷◌, ◌++◌, get_or, ap, sym, ◌∙◌, arith}
use Rattle.std.specs.Prelude.{All}
use Rattle.std.proofs.lemmas.List.{take_all, take_more}
use Rattle.std.proofs.lemmas.List.Elements.{All-nil, All-cons, All-append, All-same}
use Rattle.litmus_value.proofs.values.narrowed.Goals as goal

pub loop-value-preserved : goal.loop-value-preserved
loop-value-preserved c =
    let P : ℕ → Type 0 = λ v. v ≤ 2147483647 in
    record {
      copied = c.in_ok-push.ensures.items ∙ ap (λ vs. vs ++ get_or c.args.values.now c.loop-value.value-index 0 ∷ []) c.loop-value.invariant.copied ∙ sym (take_more c.args.values.now c.loop-value.value-index 0 c.loop-value-test.true);
      small = All-same P _ _ c.in_ok-push.ensures.items (All-append P c.loop-value.narrow.items _ c.loop-value.invariant.small (All-cons P _ [] (omega (arith, c.if-value-gt-GREATEST_VALUE.false)) (All-nil P)));
    }

pub returns-clause-small : goal.returns-clause-small
returns-clause-small c =
    let P : List ℕ → Type 0 = λ vs. All (λ v. v ≤ 2147483647) vs in
    subst P (c.loop-value.invariant.copied ∙ take_all c.loop-value.value-index c.args.values.now c.loop-value-test.false) c.loop-value.invariant.small

pub returns-clause-value : goal.returns-clause-value
returns-clause-value c = c.loop-value.invariant.copied ∙ take_all c.loop-value.value-index c.args.values.now c.loop-value-test.false

pub returns-then-value-gt-GREATEST_VALUE-clause-fault : goal.returns-then-value-gt-GREATEST_VALUE-clause-fault
returns-then-value-gt-GREATEST_VALUE-clause-fault c =
    let place = c.loop-value.value-index in
    (c.requires, (place, get_or c.args.values.now place 0, c.loop-value-test.true, search rules, c.if-value-gt-GREATEST_VALUE.true))
