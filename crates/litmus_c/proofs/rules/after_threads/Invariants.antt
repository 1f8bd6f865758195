use Rattle.std.proofs.Common.{◌≡◌, ◌+◌, take, sum_by}
use Rattle.litmus_value.specs.Limits.{program_events}
use Rattle.litmus_c.proofs.rules.after_threads.Given as goal

abbrev pub invariant-loop-thread : goal.invariant-loop-thread
invariant-loop-thread l = l.room + sum_by program_events (take l.thread-index l.threads) ≡ l.fn.room
