use Rattle.std.proofs.Common.{◌≤◌, ◌+◌}
use Rattle.cat_places.specs.Fronts.{NoneSpelled}
use Rattle.cat_places.proofs.text.last_spelled.Given as goal

abbrev pub invariant-loop-end : goal.invariant-loop-end
invariant-loop-end l = record {
  within : l.end ≤ l.place + 1;
  last : NoneSpelled l.text l.tokens l.word l.end l.place;
}

abbrev pub decreases-loop-end : goal.decreases-loop-end
decreases-loop-end l = l.end
