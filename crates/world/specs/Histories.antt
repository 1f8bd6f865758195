-- What the entries of a legal journal say of one another.
use Rattle.std.specs.Prelude.{◌≡◌, ℕ, ◌+◌, List, [], ◌∷◌, ◌++◌, length, None, Some, map}
use Rattle.listings.specs.Lists.{IsIn, NoRepeats}
use Rattle.slices.specs.VerdictValues.{VerdictValue}
use Rattle.book.specs.Jobs.{Job}
use Rattle.book.specs.Step.{IsOwn, Leads, LeadsFrom, Legal}
use Rattle.book.specs.Workbench.{Workbench, job_of, claim_of, replaced}
use Rattle.book.specs.declared.limits.Limits.{Limits}
use Rattle.book.specs.declared.live.Live.{Live}
use Rattle.journal.specs.Lines.{Line}
use Rattle.journal.specs.declared.records.Returned.{Returned}
use Rattle.journal.specs.declared.records.Said.{Said}
use Rattle.journal.specs.declared.records.Said.TheVariants.{Poll, Return}
use Rattle.journal.specs.declared.records.Reply.{Reply}
use Rattle.journal.specs.declared.records.Reply.TheVariants.{Verdict, Taken}
use Rattle.world.specs.World.{World, Event, Passes, beginning, slot}

-- a poll of this job was replied this verdict
abbrev pub Replied : ℕ → VerdictValue → List Line → Type 0
Replied id v journal = (e : Line) × IsIn e journal × (e.said ≡ Poll id) × (e.reply ≡ Verdict v)

-- A verdict, once replied, never changes.
abbrev pub VerdictsStay : Type 0
VerdictsStay = (limits : Limits) (journal : List Line) → Legal limits journal → (id : ℕ) (v w : VerdictValue) → Replied id v journal → Replied id w journal → v ≡ w

-- Two verdicts for one version of a test under one set of file versions say the same.
abbrev pub VersionsTell : Type 0
VersionsTell = (limits : Limits) (journal : List Line) → Legal limits journal → (i j : ℕ) (v w : VerdictValue) → Replied i v journal → Replied j w journal
    → v.work.test.name ≡ w.work.test.name → v.version ≡ w.version → v.work.model.files ≡ w.work.model.files → v ≡ w

-- No slice is counted twice: of a slice of a job there is one result at most.
abbrev pub CountedOnce : Type 0
CountedOnce = (limits : Limits) (es : List Event) (w : World) → Passes (beginning limits) es w → NoRepeats (map slot w.book.results)

-- The result is of the work, slice and range of a live claim of its number and this seat, and none of the versions of its work is replaced.
abbrev pub IsOwed : Workbench → ℕ → Returned → Type 0
IsOwed s seat r = (c : Live) × (job : Job) × (claim_of s.live r.claim seat ≡ Some c) × (job_of s.jobs c.job ≡ Some job) × (replaced s job ≡ None) × IsOwn c job r

-- No result of another work, or of a version that was replaced by then, is ever taken, at any workbench that the entries before it lead to and the
-- others go on from. (There may be several, since an ask's cut is free.)
abbrev pub OwnWork : Type 0
OwnWork = (limits : Limits) (before after : List Line) (e : Line) (r : Returned) (d n : ℕ) (s u : Workbench) → Leads limits before s → LeadsFrom (length before) s (e ∷ after) u → e.said ≡ Return r → e.reply ≡ Taken d n
    → IsOwed s e.seat r

-- This entry takes, at this workbench, a result for the slice at this place of the job of this number.
abbrev pub Takes : Workbench → Line → ℕ → ℕ → Type 0
Takes s e job slice = (r : Returned) × (d : ℕ) × (n : ℕ) × (e.said ≡ Return r) × (e.reply ≡ Taken d n) × ((c : Live) × (claim_of s.live r.claim e.seat ≡ Some c) × (c.job ≡ job) × (c.slice ≡ slice))

-- No slice of a job is taken twice, as long as the job stands and ever after: its number is given to no other.
abbrev pub SlicesOnce : Type 0
SlicesOnce = (limits : Limits) (before mid after : List Line) (e f : Line) (s t u : Workbench) (job slice : ℕ)
    → Leads limits before s → LeadsFrom (length before) s (e ∷ mid) t → LeadsFrom (length before + length (e ∷ mid)) t (f ∷ after) u → Takes s e job slice → Takes t f job slice → ⊥

-- the claims under which results were taken
abbrev pub claim_taken : Said → Reply → List ℕ
claim_taken (Return r) (Taken d n) = r.claim ∷ []
claim_taken said reply = []

abbrev pub claims_taken : List Line → List ℕ
claims_taken [] = []
claims_taken (e ∷ es) = claim_taken e.said e.reply ++ claims_taken es

-- Under a claim a result is taken once at most, whatever comes back, how late and how often.
abbrev pub TakenOnce : Type 0
TakenOnce = (limits : Limits) (journal : List Line) → Legal limits journal → NoRepeats (claims_taken journal)
