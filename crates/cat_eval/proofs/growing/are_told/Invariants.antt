use Rattle.std.proofs.Common.{ℕ, ◌≤◌, ◌<◌, ◌-◌, length}
use Rattle.cat_eval.specs.declared.growth.Growth.TheVariants.{Grows}
use Rattle.cat_eval.specs.Growth.{IsAtMost, growth_at}
use Rattle.cat_eval.proofs.growing.are_told.Given as goal

abbrev pub invariant-loop-place : goal.invariant-loop-place
invariant-loop-place l = (k : ℕ) → length l.growths - l.count ≤ k → k < l.place → IsAtMost (growth_at l.growths k) Grows
