use Rattle.std.proofs.Common.{sym, arith, rules}
use Rattle.std.proofs.lemmas.List.Sums.{suffix_len_is}
use Rattle.wb_text.specs.Bytes.{is_digit}
use Rattle.places.proofs.front.last_digits.Goals as goal

pub returns-then-not-is_ascii_digit-clause-value : goal.returns-then-not-is_ascii_digit-clause-value
returns-then-not-is_ascii_digit-clause-value c =
    sym (suffix_len_is is_digit c.args.bytes.now c.loop-start.start 0 c.loop-start.invariant.0 c.loop-start.invariant.1 (λ _. search rules))

pub returns-clause-value : goal.returns-clause-value
returns-clause-value c =
    omega (arith, suffix_len_is is_digit c.args.bytes.now c.loop-start.start 0 c.loop-start.invariant.0 c.loop-start.invariant.1 (λ h. absurd (omega arith)))
