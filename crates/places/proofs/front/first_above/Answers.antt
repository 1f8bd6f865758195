use Rattle.std.proofs.Common.{sym, arith}
use Rattle.std.specs.Prelude.{nat_lt}
use Rattle.std.proofs.lemmas.List.Sums.{position_or_len_is}
use Rattle.places.proofs.front.first_above.Goals as goal

pub returns-then-byte-gt127-clause-value : goal.returns-then-byte-gt127-clause-value
returns-then-byte-gt127-clause-value c = sym (position_or_len_is (λ b. nat_lt 127 b) c.args.bytes.now c.loop-at.at 0 (omega arith) c.loop-at.invariant (λ _. search (arith, c.if-byte-gt127.true)))

pub returns-clause-value : goal.returns-clause-value
returns-clause-value c = sym (position_or_len_is (λ b. nat_lt 127 b) c.args.bytes.now _ 0 (omega arith) (λ k h. c.loop-at.invariant k (omega arith)) (λ past. absurd (omega arith)))
