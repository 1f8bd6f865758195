use Rattle.std.proofs.Common.{◌≡◌, ◌≤◌, map, take, length}
use Rattle.cat_model.specs.Classing.{place_in}
use Rattle.cat_model.proofs.places.place_of.Given as goal

abbrev pub decreases-loop-left : goal.decreases-loop-left
decreases-loop-left l = l.left

-- those that are passed over aren't it
abbrev pub invariant-loop-left : goal.invariant-loop-left
invariant-loop-left l = record {
  within : l.left ≤ length l.names;
  same : place_in (map (λ x. x.now) (take l.left l.names)) l.name ≡ place_in (map (λ x. x.now) l.names) l.name;
}
