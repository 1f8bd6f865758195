use Rattle.std.proofs.Common.{◌≡◌, ◌+◌, ◌<◌, length, take, take_all, ap, ◌∙◌, arith}
use Rattle.std.proofs.lemmas.Bool.Decides.{nat_tests}
use Rattle.std.proofs.lemmas.List.{get_or_default}
use Rattle.wb_text.specs.Bytes.{is_digit}
use Rattle.wb_text.specs.Numbers.{decimal_value}
use Rattle.wb_text.proofs.Values.{decimal_value-take, decimal_value-more}
use Rattle.wb_text.proofs.number.decimal.Goals as goal

pub returns-then-value-gt-GREATEST_NUMBER : goal.returns-then-value-gt-GREATEST_NUMBER
returns-then-value-gt-GREATEST_NUMBER c = λ h.
    let more = decimal_value-more c.args.digits.now c.loop-digit.digit-index 0 (omega arith) in
    let grows = decimal_value-take (c.loop-digit.digit-index + 1) c.args.digits.now in
    absurd (omega (arith, h.1))

pub returns : goal.returns
returns c =
    let pos : 0 < length c.args.digits.now = grind (arith, nat_tests) in
    let n = c.loop-digit.digit-index in
    let xs = c.args.digits.now in
    let all : take n xs ≡ xs = take_all n xs (omega arith) in
    let value : c.loop-digit.value ≡ decimal_value xs = c.loop-digit.invariant.1 ∙ ap decimal_value all in
    (((pos, λ k d h. ap is_digit (get_or_default xs k d 0 h) ∙ c.loop-digit.invariant.2 k (omega arith)), omega arith), value)
