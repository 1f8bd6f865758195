use Rattle.std.proofs.Common.{◌≡◌, ◌++◌, refl}
use Rattle.conditions.specs.States.{mentioned}
use Rattle.conditions.proofs.ObservedPlaces.{observed_places}
use Rattle.conditions.proofs.observing.observed.Goals as goal

pub returns : goal.returns
returns c =
    let found : c.push_copies.new.places.items ≡ mentioned c.args.condition.now.formula ++ c.args.listed.now = rw (c.in_ok-push_copies.ensures, c.in_ok-push_mentioned.ensures, c.new-places.ensures.items, c.prop.ensures) refl in
    observed_places _ _ _ _ _ found c.sort_unstable.ensures.permutation c.sort_unstable.ensures.sorted c.dedup.ensures.filtered
