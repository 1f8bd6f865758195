use Rattle.std.proofs.Common.{◌≡◌, ◌<◌, ℕ, true}
use Rattle.listings.specs.Lists.{StandsAt}
use Rattle.slices.proofs.pair.Pair.stands_in.Given as goal

abbrev pub invariant-loop-write : goal.invariant-loop-write
invariant-loop-write l = l.begun ≡ true → (k : ℕ) × (k < l.write-index) × StandsAt l.order k l.self.first
