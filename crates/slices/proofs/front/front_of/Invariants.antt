use Rattle.std.proofs.Common.{◌≡◌, ◌-◌}
use Rattle.slices.specs.Fronts.{front_of, with_digits}
use Rattle.slices.proofs.front.front_of.Given as goal

abbrev pub invariant-loop-place : goal.invariant-loop-place
invariant-loop-place l = with_digits (16 - l._place) l.front l.rest ≡ front_of l.values
