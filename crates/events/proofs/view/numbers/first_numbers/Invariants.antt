use Rattle.std.proofs.Common.{◌≡◌, ℕ, ◌+◌, ◌<◌, length, get_or, drop}
use Rattle.events.proofs.Direct.{events_in}
use Rattle.events.proofs.view.numbers.first_numbers.Given as goal

abbrev pub invariant-loop-thread : goal.invariant-loop-thread
invariant-loop-thread l = (length l.firsts.items ≡ l.thread) × ((k : ℕ) → k < l.thread → get_or l.firsts.items k 0 + events_in (drop k l.runs) ≡ l.before + events_in l.runs)
