use Rattle.std.proofs.Common.{sym, ◌∙◌, arith}
use Rattle.std.proofs.lemmas.List.Sums.{prefix_len_is}
use Rattle.wb_text.specs.Bytes.{is_of}
use Rattle.wb_text.proofs.byte.run_len.Goals as goal

pub returns-then-not-has : goal.returns-then-not-has
returns-then-not-has c = sym (prefix_len_is (is_of c.args.class) c.args.text.now c.loop-i.i 0 (omega arith) c.loop-i.invariant (λ _. sym c.has.ensures ∙ c.if-not-has.true))

pub returns : goal.returns
returns c = sym (prefix_len_is (is_of c.args.class) c.args.text.now _ 0 (omega arith) (λ k h. c.loop-i.invariant k (omega arith)) (λ past. absurd (omega arith)))
