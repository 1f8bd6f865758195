-- What the book lists, as contracts see it.
use Rattle.std.specs.Prelude.{List}
use Rattle.journal.specs.declared.listing.Loaded.{Loaded}
use Rattle.journal.specs.declared.listing.JobRow.{JobRow}

-- The loaded tests and the loaded cat files, and the jobs.
pub record Catalogue : Type 0 where
  pub tests : List Loaded
  pub cats : List Loaded
  pub jobs : List JobRow
