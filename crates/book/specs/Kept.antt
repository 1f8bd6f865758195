-- The book, as contracts see it.
use Rattle.std.specs.Prelude.{◌≡◌, ◌≤◌, ◌||◌, nat_le, Bool, List, map, length}
use Rattle.std.specs.Arc.{arc_value}
use Rattle.std.specs.declared.sync.Arc.{Arc}
use Rattle.journal.specs.Lines.{Line}
use Rattle.book.specs.Step.{Leads}
use Rattle.book.specs.Workbench.{Workbench, any_free}
use Rattle.book.specs.declared.limits.Limits.{Limits}

-- The limits, the journal and the workbench.
pub record Kept : Type 0 where
  pub limits : Limits
  pub journal : List Line
  pub state : Workbench

-- the entries, as plain records
abbrev pub lines : {Z : Type 0} → List (Arc Line Z) → List Line
lines entries = map arc_value entries

-- a slice is free, the book is closed or the journal is full
abbrev pub is_ready : Kept → Bool
is_ready b = any_free b.state || b.state.closed || nat_le b.limits.journal (length b.journal)

-- What each book meets: its journal leads to its workbench and is no longer than its limit.
pub record IsKept (limits : Limits) (journal : List Line) (state : Workbench) : Type 0 where
  pub leads : Leads limits journal state
  pub within : length journal ≤ limits.journal
  pub same : state.limits ≡ limits
  pub numbered : state.last_job ≤ length journal
