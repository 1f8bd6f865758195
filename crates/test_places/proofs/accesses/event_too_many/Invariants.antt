use Rattle.std.proofs.Common.{◌≡◌, ◌≤◌, ℕ, take, map}
use Rattle.std.specs.List.{count_by}
use Rattle.litmus_syntax.specs.Drafts.{listing_of}
use Rattle.test_places.specs.Accesses.{is_access, events_with}
use Rattle.test_places.proofs.accesses.event_too_many.Given as goal

abbrev pub invariant-loop-place : goal.invariant-loop-place
invariant-loop-place l = record {
  left : l.left ≡ count_by is_access (take l.place l.marks);
  few : (j : ℕ) → j ≤ l.place → events_with l.writes (map listing_of l.bodies) (take j l.marks) ≤ 64;
}
