-- The state of the book, without its results.
use Rattle.std.specs.Prelude.{ℕ, ◌+◌, Bool, false, ◌&&◌, ◌||◌, ◌==◌, not, List, [], ◌∷◌, Option, None, Some, is_some, if◌then◌else◌}
use Rattle.std.specs.List.{list_any, find}
use Rattle.std.specs.Map.{lookup}
use Rattle.std.specs.Option.{option_map_or}
use Rattle.std.specs.Str.{bytes_eq}
use Rattle.cat_model.specs.Files.{version_of}
use Rattle.cat_model.specs.declared.files.Entry.{Entry}
use Rattle.cat_model.specs.declared.model.FileVersion.{FileVersion}
use Rattle.litmus_tree.specs.Tree.{Word, Litmus}
use Rattle.book.specs.Jobs.{Job, marked}
use Rattle.book.specs.declared.limits.Limits.{Limits}
use Rattle.book.specs.declared.names.TestSlot.{TestSlot}
use Rattle.book.specs.declared.live.Live.{Live}
use Rattle.book.specs.declared.slice.Slice.{Slice}
use Rattle.journal.specs.declared.records.Replacement.{Replacement}
use Rattle.journal.specs.declared.records.SourceKind.TheVariants.{Test, Cat}

-- Tests and cat files stand by name, in first-loaded order, each with its version and its tree or nothing. The built-in
-- cat files are there beside them, each at version 0.
pub record Workbench : Type 0 where
  pub limits : Limits
  pub tests : List (Word × TestSlot)
  pub cats : List Entry
  pub jobs : List Job
  pub live : List Live
  pub last_job : ℕ
  pub last_claim : ℕ
  pub closed : Bool

-- nothing but the limits and the built-in files
abbrev pub empty : Limits → Workbench
empty limits = record { limits = limits; tests = []; cats = []; jobs = []; live = []; last_job = 0; last_claim = 0; closed = false }

-- the version of a test's name: 0 until its first put
abbrev pub test_version : List (Word × TestSlot) → Word → ℕ
test_version tests name = option_map_or (λ x. x.version) (lookup (bytes_eq name) tests) 0

-- the test of a name
abbrev pub test_of : List (Word × TestSlot) → Word → Option Litmus
test_of tests name = option_map_or (λ x. x.tree) (lookup (bytes_eq name) tests) None

-- the job of a number
abbrev pub job_of : List Job → ℕ → Option Job
job_of jobs number = find (λ j. j.number == number) jobs

-- the live claim of a number and seat
abbrev pub is_claim : ℕ → ℕ → Live → Bool
is_claim number seat c = (c.number == number) && (c.seat == seat)

abbrev pub claim_of : List Live → ℕ → ℕ → Option Live
claim_of live number seat = find (is_claim number seat) live

-- The first of the job's files whose version isn't the job's, with its version now; or nothing.
abbrev pub replaced_file : List Entry → List FileVersion → Option Replacement
replaced_file cats [] = None
replaced_file cats (f ∷ fs) = if version_of f.name cats == f.version then replaced_file cats fs else Some (record { kind = Cat; name = f.name; version = version_of f.name cats })

-- The first of the job's test and then its files whose version isn't the job's, with the version now; or nothing.
abbrev pub replaced : Workbench → Job → Option Replacement
replaced s job =
    if test_version s.tests job.work.test.name == job.version then replaced_file s.cats job.work.model.files
    else Some (record { kind = Test; name = job.work.test.name; version = test_version s.tests job.work.test.name })

abbrev pub is_replaced : Workbench → Job → Bool
is_replaced s job = is_some (replaced s job)

-- a live claim holds this slice
abbrev pub is_claimed : List Live → ℕ → ℕ → Bool
is_claimed live job slice = list_any (λ c. (c.job == job) && (c.slice == slice)) live

-- the slice is neither returned nor claimed, and its job isn't replaced
abbrev pub is_free : Workbench → Job → ℕ → Slice → Bool
is_free s job i slice = (not slice.returned && not (is_claimed s.live job.number i)) && not (is_replaced s job)

-- one of these slices, whose first has place i, is free
abbrev pub free_among : Workbench → Job → ℕ → List Slice → Bool
free_among s job i [] = false
free_among s job i (x ∷ xs) = is_free s job i x || free_among s job (i + 1) xs

abbrev pub has_free : Workbench → Job → Bool
has_free s job = free_among s job 0 job.slices

-- a slice of some job is free
abbrev pub any_free : Workbench → Bool
any_free s = list_any (has_free s) s.jobs

-- with that slice of the job of a number returned
abbrev pub marked_in : List Job → ℕ → ℕ → List Job
marked_in [] number i = []
marked_in (j ∷ js) number i = if j.number == number then marked i j ∷ js else j ∷ marked_in js number i
