use Rattle.std.proofs.Common.{◌≡◌, ◌<◌, ◌≤◌, ℕ, length, get_or}
use Rattle.candidates.specs.declared.impossible.ThreadNeeds.{ThreadNeeds}
use Rattle.candidates.specs.Impossible.{HasNeeds}
use Rattle.candidates.proofs.impossible.each_needs.Given as goal

abbrev pub invariant-loop-thread : goal.invariant-loop-thread
invariant-loop-thread l = record {
  many : length l.all.items ≡ l.thread;
  within : l.thread ≤ length l.threads;
  are : (k : ℕ) (t : ThreadNeeds) → k < length l.all.items → t ≡ get_or l.all.items k t → HasNeeds l.init l.stores l.threads k t;
}
