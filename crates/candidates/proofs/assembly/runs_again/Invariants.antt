use Rattle.std.proofs.Common.{◌≡◌, ◌≤◌, take, drop, length, true}
use Rattle.candidates.specs.Outlines.{outlines}
use Rattle.candidates.proofs.assembly.runs_again.Given as goal

abbrev pub invariant-loop-thread : goal.invariant-loop-thread
invariant-loop-thread l = record {
  is : take l.thread l.runs.items ≡ take l.thread l.page.runs.items;
  behind : drop l.thread l.runs.items ≡ drop l.thread l.fn.runs.items;
  within : l.thread ≤ length l.page.runs.items;
  room : l.thread ≤ length l.runs.items;
  alike : l.alike ≡ true → (l.asked ≡ true) × (length l.fn.runs.items ≤ length l.page.runs.items) × (outlines l.runs.items ≡ outlines l.fn.runs.items);
}
