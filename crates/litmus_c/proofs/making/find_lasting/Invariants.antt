use Rattle.std.proofs.Common.{◌≡◌, map, reverse}
use Rattle.conditions.specs.declared.place.Place.{Place}
use Rattle.conditions.specs.Equality.{same_place}
use Rattle.indexmap.specs.IndexSet.{contains}
use Rattle.litmus_c.specs.Rules.{is_given, lasting}
use Rattle.litmus_c.proofs.making.find_lasting.Given as goal

-- what is kept of the entries so far, the last first, and the places that they give
abbrev pub invariant-loop-entry : goal.invariant-loop-entry
invariant-loop-entry l = record {
  kept : reverse l.kept.items ≡ lasting (reverse (map (λ e. e.now) l.yielded));
  seen : (p : Place) → contains same_place l.later p ≡ is_given (reverse (map (λ e. e.now) l.yielded)) p;
}
