use Rattle.std.proofs.Common.{◌≡◌, ℕ, ◌≤◌, take, []}
use Rattle.std.specs.Prelude.{fold}
use Rattle.test_places.specs.Limits.{with_location, locations}
use Rattle.test_places.proofs.limits.location_too_many.Given as goal

abbrev pub invariant-loop-place : goal.invariant-loop-place
invariant-loop-place l = record {
  names : l.names.items ≡ fold with_location [] (take l.place l.marks);
  few : (j : ℕ) → j ≤ l.place → locations (take j l.marks) ≤ 8;
}
