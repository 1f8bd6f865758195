use Rattle.conditions.proofs.ObservedPlaces.{same_observed}
use Rattle.conditions.proofs.laws.observed_places.Goals as goal

pub returns : goal.returns
returns c = same_observed
