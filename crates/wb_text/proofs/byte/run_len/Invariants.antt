use Rattle.std.proofs.Common.{◌≡◌, ℕ, ◌<◌, true, get_or}
use Rattle.wb_text.specs.Bytes.{is_of}
use Rattle.wb_text.proofs.byte.run_len.Given as goal

-- the bytes so far are of the class
abbrev pub invariant-loop-i : goal.invariant-loop-i
invariant-loop-i l = (k : ℕ) → k < l.i → is_of l.class (get_or l.text k 0) ≡ true
