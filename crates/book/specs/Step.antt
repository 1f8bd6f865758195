-- Which replies the book may give, and the workbench after them. A journal is legal if one workbench could have made it.
-- Each reply is the first refusal whose cause holds, with the workbench unchanged; else it is as the command asks.
use Rattle.std.specs.Prelude.{◌≡◌, ◌≢◌, ℕ, ◌+◌, ◌<◌, ◌≤◌, Bool, true, false, ◌&&◌, ◌==◌, not, nat_lt, nat_le, List, [], ◌∷◌, ◌++◌, length, filter, count_by, Option, None, Some, is_some, slice_get, ◌⊎◌}
use Rattle.std.specs.List.{list_all}
use Rattle.std.specs.Str.{bytes_eq}
use Rattle.indexmap.specs.IndexMap.{insert_entry}
use Rattle.listings.specs.Lists.{IsIn}
use Rattle.cat_model.specs.Faults.{IsCause}
use Rattle.cat_model.specs.Files.{version_of, loaded, store}
use Rattle.cat_model.specs.Models.{Assembly}
use Rattle.cat_model.specs.declared.fault.ModelFault.TheVariants as of_model
use Rattle.cat_syntax.specs.Reads.{Reads as ReadsCat, IsRefused as IsRefusedCat}
use Rattle.cat_tree.specs.Tree.{File}
use Rattle.cat_syntax.specs.declared.fault.CatFault.TheVariants as of_cat
use Rattle.litmus_c.specs.Reads.{Reads, IsRefused}
use Rattle.litmus_tree.specs.Tree.{Word, Litmus}
use Rattle.litmus_c.specs.declared.fault.TestFault.TheVariants as of_test
use Rattle.candidates.specs.Faults.{IsSpaceFault}
use Rattle.candidates.specs.declared.fault.SpaceFault.TheVariants as of_space
use Rattle.journal.specs.Lines.{Line}
use Rattle.slices.specs.Parts.{IsAdmitted, test_size}
use Rattle.slices.specs.Verdicts.{IsVerdict}
use Rattle.slices.specs.Works.{IsModelOf}
use Rattle.book.specs.Jobs as jobs
use Rattle.book.specs.Jobs.{done, is_done}
use Rattle.book.specs.Listings.{listing}
use Rattle.book.specs.declared.slice.Slice.{Slice}
use Rattle.book.specs.Workbench.{Workbench, empty, test_version, test_of, job_of, claim_of, is_claim, replaced, is_free, any_free, marked_in}
use Rattle.book.specs.declared.limits.Limits.{Limits}
use Rattle.book.specs.declared.live.Live.{Live}
use Rattle.journal.specs.declared.records.Returned.{Returned}
use Rattle.journal.specs.declared.records.Said.{Said}
use Rattle.journal.specs.declared.records.Said.TheVariants.{PutCat, PutTest, DropCat, DropTest, Ask, Poll, Forget, Release, List as ListAll, Claim, Return, GiveBack, Close}
use Rattle.journal.specs.declared.records.Refusal.TheVariants.{Closed, ReadingTest, ReadingCat, NoTest, Model, Space, JobsFull, NoJob, NoClaim, Replaced, Stranger, VersionsSpent, ClaimsSpent}
use Rattle.journal.specs.declared.records.Reply.{Reply}
use Rattle.journal.specs.declared.records.Reply.TheVariants.{Version, Job, Pending, Verdict, Piece, Nothing, Taken, Freed, Listed, Done, Refused}

-- A put of a cat file stores the tree of its text at the next version.
abbrev pub PutsCat : Workbench → Word → List ℕ → Reply → Workbench → Type 0
PutsCat s name text (Refused (ReadingCat fault)) s' = ((f : File) → ¬ ReadsCat text f) × (fault ≢ of_cat.NoMemory) × IsRefusedCat text fault × (s' ≡ s)
PutsCat s name text (Refused (VersionsSpent n)) s' = (f : File) × ReadsCat text f × (s.limits.versions ≤ version_of name s.cats) × (n ≡ name) × (s' ≡ s)
PutsCat s name text (Version n v) s' =
    (f : File) × ReadsCat text f × (version_of name s.cats < s.limits.versions) × (n ≡ name) × (v ≡ version_of name s.cats + 1)
    × (s' ≡ record s { cats = store (record { name = name; version = v; file = Some f }) s.cats })
PutsCat s name text reply s' = ⊥

-- So does a put of a test, whose name stands in its text.
abbrev pub PutsTest : Workbench → List ℕ → Reply → Workbench → Type 0
PutsTest s text (Refused (ReadingTest fault)) s' = ((t : Litmus) → ¬ Reads text t) × (fault ≢ of_test.NoMemory) × IsRefused text fault × (s' ≡ s)
PutsTest s text (Refused (VersionsSpent n)) s' = (t : Litmus) × Reads text t × (s.limits.versions ≤ test_version s.tests t.name) × (n ≡ t.name) × (s' ≡ s)
PutsTest s text (Version n v) s' =
    (t : Litmus) × Reads text t × (test_version s.tests t.name < s.limits.versions) × (n ≡ t.name) × (v ≡ test_version s.tests t.name + 1)
    × (s' ≡ record s { tests = insert_entry bytes_eq s.tests n (record { version = v; tree = Some t }) })
PutsTest s text reply s' = ⊥

-- A drop takes the file of a name away and raises its version. A built-in file can't be dropped.
abbrev pub DropsCat : Workbench → Word → Reply → Workbench → Type 0
DropsCat s name (Refused (Model fault)) s' = (loaded name s.cats ≡ None) × (fault ≡ of_model.NoCat name) × (s' ≡ s)
DropsCat s name (Refused (VersionsSpent n)) s' = (is_some (loaded name s.cats) ≡ true) × (s.limits.versions ≤ version_of name s.cats) × (n ≡ name) × (s' ≡ s)
DropsCat s name (Version n v) s' =
    (is_some (loaded name s.cats) ≡ true) × (version_of name s.cats < s.limits.versions) × (n ≡ name) × (v ≡ version_of name s.cats + 1)
    × (s' ≡ record s { cats = store (record { name = name; version = v; file = None }) s.cats })
DropsCat s name reply s' = ⊥

-- So does a drop of a test.
abbrev pub DropsTest : Workbench → Word → Reply → Workbench → Type 0
DropsTest s name (Refused (NoTest n)) s' = (test_of s.tests name ≡ None) × (n ≡ name) × (s' ≡ s)
DropsTest s name (Refused (VersionsSpent n)) s' = (is_some (test_of s.tests name) ≡ true) × (s.limits.versions ≤ test_version s.tests name) × (n ≡ name) × (s' ≡ s)
DropsTest s name (Version n v) s' =
    (is_some (test_of s.tests name) ≡ true) × (test_version s.tests name < s.limits.versions) × (n ≡ name) × (v ≡ test_version s.tests name + 1)
    × (s' ≡ record s { tests = insert_entry bytes_eq s.tests name (record { version = v; tree = None }) })
DropsTest s name reply s' = ⊥

-- the slice has this number
abbrev pub has_number : ℕ → Slice → Bool
has_number i x = nat_le x.from i && nat_lt i x.to

-- Fresh slices, 1 to 256 of them, that cover the numbers below n once each.
pub record IsCut (n : ℕ) (slices : List Slice) : Type 0 where
  pub some : 1 ≤ length slices
  pub few : length slices ≤ 256
  pub fresh : list_all (λ x. not x.returned) slices ≡ true
  pub within : list_all (λ x. nat_le x.from x.to && nat_le x.to n) slices ≡ true
  pub once : (i : ℕ) → i < n → count_by (has_number i) slices ≡ 1

-- A job of this test under this model, at the next number, with any cut.
abbrev pub AsksFor : Workbench → Word → Litmus → Assembly → Reply → Workbench → Type 0
AsksFor s test t m (Refused (Space fault)) s' = IsSpaceFault t fault × (fault ≢ of_space.NoMemory) × (s' ≡ s)
AsksFor s test t m (Refused JobsFull) s' = IsAdmitted t × (256 ≤ length s.jobs) × (s' ≡ s)
AsksFor s test t m (Job id) s' =
    IsAdmitted t × (length s.jobs < 256) × (id ≡ s.last_job + 1)
    × ((slices : List Slice) × IsCut (test_size t) slices
    × (s' ≡ record s { last_job = id; jobs = s.jobs ++ record { number = id; version = test_version s.tests test; work = record { test = t; model = m }; slices = slices } ∷ [] }))
AsksFor s test t m reply s' = ⊥

-- The test and the model are those of now.
abbrev pub Asks : Workbench → Word → Word → Option Litmus → Reply → Workbench → Type 0
Asks s test cat None (Refused (NoTest n)) s' = (n ≡ test) × (s' ≡ s)
Asks s test cat None reply s' = ⊥
Asks s test cat (Some t) (Refused (Model fault)) s' = IsCause fault s.cats cat × (s' ≡ s)
Asks s test cat (Some t) reply s' = (m : Assembly) × IsModelOf s.cats cat m × AsksFor s test t m reply s'

-- Once all slices are returned, any right verdict with the job's version and work; until then the count, unless the job
-- is replaced.
abbrev pub Polls : Workbench → ℕ → Option jobs.Job → Reply → Workbench → Type 0
Polls s id None (Refused (NoJob n)) s' = (n ≡ id) × (s' ≡ s)
Polls s id (Some job) (Verdict v) s' = (is_done job ≡ true) × (v.work ≡ job.work) × (v.version ≡ job.version) × IsVerdict v.work.test v.work.model.items v.finding × (s' ≡ s)
Polls s id (Some job) (Refused (Replaced r)) s' = (is_done job ≡ false) × (replaced s job ≡ Some r) × (s' ≡ s)
Polls s id (Some job) (Pending d n) s' = (is_done job ≡ false) × (replaced s job ≡ None) × (d ≡ done job) × (n ≡ length job.slices) × (s' ≡ s)
Polls s id job reply s' = ⊥

-- the claim is of the job of this number
abbrev pub is_of : ℕ → Live → Bool
is_of id c = c.job == id

-- the live claims but those of a job
unfoldable pub elsewhere : ℕ → List Live → List Live
elsewhere id live = filter (λ c. not (is_of id c)) live

-- the jobs but the one of this number
unfoldable pub without : ℕ → List jobs.Job → List jobs.Job
without id js = filter (λ j. not (j.number == id)) js

-- with a job's claims ended
abbrev pub released : Workbench → ℕ → Workbench
released s id = record s { live = elsewhere id s.live }

-- with a job taken away, and its claims ended
abbrev pub forgotten : Workbench → ℕ → Workbench
forgotten s id = record s { jobs = without id s.jobs; live = elsewhere id s.live }

-- A job is forgotten with its claims.
abbrev pub Forgets : Workbench → ℕ → Reply → Workbench → Type 0
Forgets s id (Refused (NoJob n)) s' = (job_of s.jobs id ≡ None) × (n ≡ id) × (s' ≡ s)
Forgets s id Done s' = (is_some (job_of s.jobs id) ≡ true) × (s' ≡ forgotten s id)
Forgets s id reply s' = ⊥

-- A job's claims end, so that their slices are free again. What was returned stays.
abbrev pub Releases : Workbench → ℕ → Reply → Workbench → Type 0
Releases s id (Refused (NoJob n)) s' = (job_of s.jobs id ≡ None) × (n ≡ id) × (s' ≡ s)
Releases s id (Freed n) s' = (is_some (job_of s.jobs id) ≡ true) × (n ≡ count_by (is_of id) s.live) × (s' ≡ released s id)
Releases s id reply s' = ⊥

-- Any free slice may be given.
abbrev pub Claims : Workbench → ℕ → Reply → Workbench → Type 0
Claims s seat Nothing s' = (any_free s ≡ false) × (s' ≡ s)
Claims s seat (Refused ClaimsSpent) s' = (any_free s ≡ true) × (s.limits.claims ≤ s.last_claim) × (s' ≡ s)
Claims s seat (Piece p) s' =
    (s.last_claim < s.limits.claims)
    × ((job : jobs.Job) × IsIn job s.jobs × ((x : Slice) × (slice_get job.slices p.slice ≡ Some x) × (is_free s job p.slice x ≡ true)
    × (p ≡ record { claim = s.last_claim + 1; job = job.number; slice = p.slice; from = x.from; to = x.to; work = job.work })))
    × (s' ≡ record s { last_claim = p.claim; live = s.live ++ record { number = p.claim; seat = seat; job = p.job; slice = p.slice } ∷ [] })
Claims s seat reply s' = ⊥

-- the live claims but this one
unfoldable pub others : ℕ → ℕ → List Live → List Live
others number seat live = filter (λ c. not (is_claim number seat c)) live

-- with a claim ended
abbrev pub ended : Workbench → ℕ → ℕ → Workbench
ended s number seat = record s { live = others number seat s.live }

-- with a claim ended, and its slice returned
abbrev pub taken : Workbench → ℕ → ℕ → ℕ → ℕ → Workbench
taken s number seat job slice = record s { live = others number seat s.live; jobs = marked_in s.jobs job slice }

-- the slice has this range
abbrev pub HasRange : Option Slice → ℕ → ℕ → Type 0
HasRange None from to = ⊥
HasRange (Some x) from to = (x.from ≡ from) × (x.to ≡ to)

-- The result is of the slice, range and work of its claim.
abbrev pub IsOwn : Live → jobs.Job → Returned → Type 0
IsOwn c job r = (r.slice ≡ c.slice) × HasRange (slice_get job.slices r.slice) r.from r.to × (r.work ≡ job.work)

-- A return under this claim to its job: taken, it ends the claim and marks the slice; so much is returned then. A replaced
-- job ends the claim, too.
abbrev pub ReturnsTo : Workbench → ℕ → Returned → Live → Option jobs.Job → Reply → Workbench → Type 0
ReturnsTo s seat r c None (Refused (NoClaim n)) s' = (n ≡ r.claim) × (s' ≡ s)
ReturnsTo s seat r c (Some job) (Refused (Replaced x)) s' = (replaced s job ≡ Some x) × (s' ≡ ended s r.claim seat)
ReturnsTo s seat r c (Some job) (Refused (Stranger n)) s' = (replaced s job ≡ None) × (¬ IsOwn c job r) × (n ≡ r.claim) × (s' ≡ s)
ReturnsTo s seat r c (Some job) (Taken d n) s' =
    (replaced s job ≡ None) × IsOwn c job r × (s' ≡ taken s r.claim seat c.job r.slice)
    × (d ≡ done (jobs.marked r.slice job)) × (n ≡ length job.slices)
ReturnsTo s seat r c job reply s' = ⊥

-- The claim of this number and seat ends.
abbrev pub GivesBack : Workbench → ℕ → ℕ → Reply → Workbench → Type 0
GivesBack s seat claim (Refused (NoClaim n)) s' = (claim_of s.live claim seat ≡ None) × (n ≡ claim) × (s' ≡ s)
GivesBack s seat claim Done s' = (is_some (claim_of s.live claim seat) ≡ true) × (s' ≡ ended s claim seat)
GivesBack s seat claim reply s' = ⊥

-- What is loaded and asked is listed.
abbrev pub ListsAll : Workbench → Reply → Workbench → Type 0
ListsAll s (Listed l) s' = (l ≡ listing s) × (s' ≡ s)
ListsAll s reply s' = ⊥

-- The book is closed.
abbrev pub Closes : Workbench → Reply → Workbench → Type 0
Closes s Done s' = s' ≡ record s { closed = true }
Closes s reply s' = ⊥

-- the live claim of this number and seat, and its job
abbrev pub Returns : Workbench → ℕ → Returned → Option Live → Reply → Workbench → Type 0
Returns s seat r None (Refused (NoClaim n)) s' = (n ≡ r.claim) × (s' ≡ s)
Returns s seat r None reply s' = ⊥
Returns s seat r (Some c) reply s' = ReturnsTo s seat r c (job_of s.jobs c.job) reply s'

-- a command to a book that is not closed
abbrev pub OpenStep : Workbench → ℕ → Said → Reply → Workbench → Type 0
OpenStep s seat (PutCat name text) reply s' = PutsCat s name text reply s'
OpenStep s seat (PutTest text) reply s' = PutsTest s text reply s'
OpenStep s seat (DropCat name) reply s' = DropsCat s name reply s'
OpenStep s seat (DropTest name) reply s' = DropsTest s name reply s'
OpenStep s seat (Ask test cat) reply s' = Asks s test cat (test_of s.tests test) reply s'
OpenStep s seat (Poll id) reply s' = Polls s id (job_of s.jobs id) reply s'
OpenStep s seat (Forget id) reply s' = Forgets s id reply s'
OpenStep s seat (Release id) reply s' = Releases s id reply s'
OpenStep s seat ListAll reply s' = ListsAll s reply s'
OpenStep s seat Claim reply s' = Claims s seat reply s'
OpenStep s seat (Return r) reply s' = Returns s seat r (claim_of s.live r.claim seat) reply s'
OpenStep s seat (GiveBack claim) reply s' = GivesBack s seat claim reply s'
OpenStep s seat Close reply s' = Closes s reply s'

-- A closed book refuses each command.
abbrev pub Step : Workbench → ℕ → Said → Reply → Workbench → Type 0
Step s seat said reply s' = ((s.closed ≡ true) × (reply ≡ Refused Closed) × (s' ≡ s)) ⊎ ((s.closed ≡ false) × OpenStep s seat said reply s')

-- from s, whose next place is this one, the entries lead to s'
abbrev pub LeadsFrom : ℕ → Workbench → List Line → Workbench → Type 0
LeadsFrom place s [] s' = s' ≡ s
LeadsFrom place s (line ∷ lines) s' = (line.place ≡ place) × ((mid : Workbench) × Step s line.seat line.said line.reply mid × LeadsFrom (place + 1) mid lines s')

-- From the empty workbench the journal leads to s.
abbrev pub Leads : Limits → List Line → Workbench → Type 0
Leads limits journal s = LeadsFrom 0 (empty limits) journal s

-- It leads to some workbench.
abbrev pub Legal : Limits → List Line → Type 0
Legal limits journal = (s : Workbench) × Leads limits journal s
