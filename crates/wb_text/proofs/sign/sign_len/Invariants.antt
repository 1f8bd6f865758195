use Rattle.std.proofs.Common.{map}
use Rattle.wb_text.proofs.Signs.{LongestOf}
use Rattle.wb_text.proofs.sign.sign_len.Given as goal

abbrev pub invariant-loop-sign : goal.invariant-loop-sign
invariant-loop-sign l = LongestOf (map (λ s. s.now) l.sign-items) l.sign-index l.text l.longest
