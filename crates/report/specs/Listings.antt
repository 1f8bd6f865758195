-- The printed listings of a book: a line for each loaded test, for each loaded cat file and for each job, and a last line.
use Rattle.std.specs.Prelude.{ℕ, List, ◌++◌, codes, decimal}
use Rattle.std.specs.List.{flat_map}
use Rattle.journal.specs.Listed.{Catalogue}
use Rattle.journal.specs.declared.listing.Loaded.{Loaded}
use Rattle.journal.specs.declared.listing.JobRow.{JobRow}

-- a name with its version, behind a word
abbrev pub loaded_text : List ℕ → Loaded → List ℕ
loaded_text word l = word ++ l.name ++ codes " " ++ decimal l.version ++ codes "\n"

-- a job: its number, its test and its model's root, and how many of its slices are returned

abbrev pub asked_text : JobRow → List ℕ
asked_text j = codes "job " ++ decimal j.number ++ codes " " ++ j.test ++ codes " " ++ j.cat

abbrev pub counts_text : JobRow → List ℕ
counts_text j = codes " " ++ decimal j.done ++ codes " " ++ decimal j.total ++ codes "\n"

abbrev pub job_text : JobRow → List ℕ
job_text j = asked_text j ++ counts_text j

abbrev pub listing_text : Catalogue → List ℕ
listing_text l = flat_map (loaded_text (codes "test ")) l.tests ++ flat_map (loaded_text (codes "cat ")) l.cats ++ flat_map job_text l.jobs ++ codes "end\n"
