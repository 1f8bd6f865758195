-- What the book lists.
use Rattle.std.specs.Prelude.{Bool, List, [], ◌∷◌, map, filter, length, is_some}
use Rattle.cat_model.specs.Files.{version_of, loaded}
use Rattle.cat_model.specs.declared.files.Entry.{Entry}
use Rattle.cat_model.specs.declared.model.FileVersion.{FileVersion}
use Rattle.journal.specs.Listed.{Catalogue}
use Rattle.journal.specs.declared.listing.JobRow.{JobRow}
use Rattle.journal.specs.declared.listing.Loaded.{Loaded}
use Rattle.litmus_tree.specs.Tree.{Word}
use Rattle.book.specs.Jobs.{Job, done}
use Rattle.book.specs.Workbench.{Workbench, test_version, test_of}
use Rattle.book.specs.declared.names.TestSlot.{TestSlot}

-- the names of tests that are loaded, in the order of their first load, each with its version
abbrev pub test_row : List (Word × TestSlot) → Word → Loaded
test_row tests name = record { name = name; version = test_version tests name }

abbrev pub is_test : List (Word × TestSlot) → Word → Bool
is_test tests name = is_some (test_of tests name)

abbrev pub listed_tests : List (Word × TestSlot) → List Loaded
listed_tests tests = map (test_row tests) (filter (is_test tests) (map (λ t. t.0) tests))

-- and those of cat files; built-in files aren't among them
abbrev pub cat_row : List Entry → Word → Loaded
cat_row cats name = record { name = name; version = version_of name cats }

abbrev pub is_cat : List Entry → Word → Bool
is_cat cats name = is_some (loaded name cats)

abbrev pub listed_cats : List Entry → List Loaded
listed_cats cats = map (cat_row cats) (filter (is_cat cats) (map (λ e. e.name) cats))

-- the first of a model's files is its root
abbrev pub root_of : List FileVersion → Word
root_of [] = []
root_of (f ∷ fs) = f.name

abbrev pub row_of : Job → JobRow
row_of job = record { number = job.number; test = job.work.test.name; cat = root_of job.work.model.files; done = done job; total = length job.slices }

abbrev pub listing : Workbench → Catalogue
listing s = record { tests = listed_tests s.tests; cats = listed_cats s.cats; jobs = map row_of s.jobs }
