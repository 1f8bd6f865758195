use Rattle.std.proofs.Common.{◌≡◌, ◌<◌, ◌+◌, take, drop}
use Rattle.listings.specs.Lists.{sum_of}
use Rattle.candidates.proofs.choosing.part_from.Given as goal

abbrev pub invariant-loop-place : goal.invariant-loop-place
invariant-loop-place l = record {
  is : l.number ≡ sum_of (λ n. n) (take l.place l.sizes) + l.rest;
  below : l.rest < sum_of (λ n. n) (drop l.place l.sizes);
}
