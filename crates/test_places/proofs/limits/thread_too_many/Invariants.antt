use Rattle.std.proofs.Common.{◌≡◌, ℕ, ◌≤◌, take}
use Rattle.std.specs.List.{count_by}
use Rattle.test_places.specs.Rules.{is_head}
use Rattle.test_places.proofs.limits.thread_too_many.Given as goal

abbrev pub invariant-loop-place : goal.invariant-loop-place
invariant-loop-place l = record {
  heads : l.heads ≡ count_by is_head (take l.place l.marks);
  few : (j : ℕ) → j ≤ l.place → count_by is_head (take j l.marks) ≤ 8;
}
