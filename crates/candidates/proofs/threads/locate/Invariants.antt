use Rattle.std.proofs.Common.{◌≡◌, ◌≤◌, drop, take, length, true}
use Rattle.candidates.specs.Candidates.{choices}
use Rattle.candidates.specs.Impossible.{AreAllNeeds, AreNeeds}
use Rattle.candidates.specs.Levels.{AreLevels, ArePlaced, places_of, tally_to}
use Rattle.candidates.specs.Outlines.{outlines, writings}
use Rattle.candidates.proofs.Descent.{IsDown}
use Rattle.candidates.proofs.Grouping.{events_of}
use Rattle.candidates.proofs.Staying.{Stay}
use Rattle.candidates.proofs.threads.locate.Given as goal

abbrev pub invariant-loop-thread : goal.invariant-loop-thread
invariant-loop-thread l = record {
  down : IsDown (length l.threads.init.now) (choices l.threads.runs.now) l.number l.rest (tally_to (length l.threads.init.now) l.threads.groups.now (places_of l.levels.items) l.thread) (take l.thread l.runs.items) (drop l.thread l.threads.runs.now);
  within : l.thread ≤ length l.threads.runs.now;
  done : l.thread ≤ length l.places.items;
  placed : ArePlaced l.threads.runs.now l.runs.items l.places.items;
  same : l.kept.same ≤ length l.threads.runs.now;
  stay : Stay l.runs.items l.fn.runs.items l.thread l.kept.same;
  calm : l.kept.calm ≡ true → (length l.fn.runs.items ≤ length l.threads.runs.now) × (writings l.runs.items ≡ writings l.fn.runs.items);
  alike : l.kept.alike ≡ true → (length l.fn.runs.items ≤ length l.threads.runs.now) × (outlines l.runs.items ≡ outlines l.fn.runs.items);
  there : l.thread ≤ length l.levels.items;
  levels : AreLevels (length l.threads.init.now) l.threads.groups.now l.levels.items;
  chosen : (h : AreAllNeeds l.threads.init.now l.threads.runs.now l.threads.needs.now) → l.thread ≤ length l.threads.needs.now → AreNeeds l.threads.init.now h.stores (events_of (take l.thread l.runs.items)) l.chosen;
}
