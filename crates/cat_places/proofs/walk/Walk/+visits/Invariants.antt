use Rattle.std.proofs.Common.{◌≡◌, ◌++◌, ◌+◌, ◌*◌, ◌≤◌, length, drop}
use Rattle.cat_places.specs.Walks.{cut, brought, listed, items_of, visits_of}
use Rattle.cat_places.proofs.walk.Walk.+visits.Given as goal

abbrev pub decreases-visit : goal.decreases-visit
decreases-visit l = 2 * l.depth + 1

abbrev pub decreases-enter : goal.decreases-enter
decreases-enter l = 2 * l.depth

-- what is here, and what is left of the file
abbrev pub invariant-visit-loop-number : goal.invariant-visit-loop-number
invariant-visit-loop-number l = record {
  few : length l.visits.items ≤ 4097;
  whole : cut (l.visits.items ++ listed l.self.sources.now (brought l.self.sources.now l.self.files.now l.depth l.path) l.path l.source l.number (drop l.number (items_of l.self.files.now l.source))) ≡
      cut (l.fn.visits.items ++ visits_of l.self.sources.now l.self.files.now l.depth l.path l.source);
}
