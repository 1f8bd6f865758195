-- What a call does to the workbench.
use Rattle.std.specs.Prelude.{◌≡◌, ℕ, ◌+◌, ◌<◌, true, false, [], ◌∷◌, ◌++◌, Option, None, Some, is_some, slice_get}
use Rattle.std.specs.Str.{bytes_eq}
use Rattle.indexmap.specs.IndexMap.{insert_entry}
use Rattle.cat_model.specs.Files.{version_of, loaded, store}
use Rattle.book.specs.Frees.{IsPassed}
use Rattle.book.specs.Jobs.{Job}
use Rattle.book.specs.Results.{IsVerdictOn}
use Rattle.slices.specs.VerdictValues.{VerdictValue}
use Rattle.slices.specs.Parts.{PieceResultValue}
use Rattle.book.specs.Step.{HasRange, ended, taken, released, forgotten}
use Rattle.book.specs.Workbench.{Workbench, job_of, claim_of, is_claimed}
use Rattle.book.specs.declared.live.Live.{Live}
use Rattle.book.specs.declared.plan.Change.{Change}
use Rattle.book.specs.declared.plan.Change.TheVariants.{Keep, PutCat, DropCat, SetTest, Open, Forget, Release, Hold, End, Take, Judge, Close}

abbrev pub changed : Workbench → Change → Workbench
changed s Keep = s
changed s (PutCat name version file) = record s { cats = store (record { name = name; version = version; file = Some file }) s.cats }
changed s (DropCat name version) = record s { cats = store (record { name = name; version = version; file = None }) s.cats }
changed s (SetTest name slot) = record s { tests = insert_entry bytes_eq s.tests name slot }
changed s (Open job) = record s { last_job = job.number; jobs = s.jobs ++ job ∷ [] }
changed s (Forget id) = forgotten s id
changed s (Release id) = released s id
changed s (Hold claim mark) = record s { last_claim = claim.number; live = s.live ++ claim ∷ [] }
changed s (End number seat) = ended s number seat
changed s (Take number seat job part) = taken s number seat job part.piece.slice
changed s (Judge id v) = s
changed s Close = record s { closed = true }

-- the result is of the job's work, and of a slice that it has
pub record IsFit (job : Job) (part : PieceResultValue) : Type 0 where
  pub work : part.piece.work ≡ job.work
  pub range : HasRange (slice_get job.slices part.piece.slice) part.piece.from part.piece.to

abbrev pub FitsJob : Option Job → PieceResultValue → Type 0
FitsJob None part = ⊥
FitsJob (Some job) part = IsFit job part

-- the claim is live, and holds this slice of the job
abbrev pub HoldsSlice : Option Live → ℕ → ℕ → Type 0
HoldsSlice None job slice = ⊥
HoldsSlice (Some c) job slice = (c.job ≡ job) × (c.slice ≡ slice)

-- the verdict is one on the job
abbrev pub FitsVerdict : Option Job → VerdictValue → Type 0
FitsVerdict None v = ⊥
FitsVerdict (Some job) v = IsVerdictOn job.work job.version v

-- A taken result must be of a job that is there, and of the slice that a live claim holds; a verdict must be one on a job that is there, a put or a drop raises the version, and what is dropped must be there.
-- A claim has a new number, and the slice that it is to hold must not be claimed, and the search must have come to the mark.
abbrev pub IsReady : Workbench → Change → Type 0
IsReady s (Take number seat job part) = FitsJob (job_of s.jobs job) part × HoldsSlice (claim_of s.live number seat) job part.piece.slice
IsReady s (Judge id v) = FitsVerdict (job_of s.jobs id) v
IsReady s (PutCat name version file) = version_of name s.cats < version
IsReady s (DropCat name version) = (is_some (loaded name s.cats) ≡ true) × (version_of name s.cats < version)
IsReady s (Open job) = job.number ≡ s.last_job + 1
IsReady s (Hold claim mark) = (s.last_claim < claim.number) × (is_claimed s.live claim.job claim.slice ≡ false) × IsPassed s mark.job mark.slice
IsReady s _ = Unit {0}
