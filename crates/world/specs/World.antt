-- A book with its results, its journal, and those who call it: sessions and workers, who hold pieces and results, pass
-- them on, come back late with them, or vanish.
use Rattle.std.specs.Prelude.{◌≡◌, ℕ, ◌<◌, ◌⊎◌, Bool, true, false, not, ◌==◌, List, [], ◌∷◌, ◌++◌, length, filter, map, Option, None, Some, slice_get, slice_set, if◌then◌else◌}
use Rattle.std.specs.Option.{option_map_or}
use Rattle.listings.specs.Lists.{IsIn, Lists, NoRepeats}
use Rattle.slices.specs.VerdictValues.{VerdictValue}
use Rattle.slices.specs.Findings.{FindingValue}
use Rattle.slices.specs.Parts.{IsPart, PieceResultValue, PieceValue}
use Rattle.slices.specs.Verdicts.{IsVerdict}
use Rattle.book.specs.Jobs.{Job, is_done}
use Rattle.book.specs.Step.{HasRange, Step, OpenStep, Leads}
use Rattle.book.specs.Workbench.{Workbench, empty, job_of, claim_of}
use Rattle.book.specs.declared.limits.Limits.{Limits}
use Rattle.book.specs.declared.slice.Slice.{Slice}
use Rattle.journal.specs.Lines.{Line, returned}
use Rattle.journal.specs.declared.records.Said.{Said}
use Rattle.journal.specs.declared.records.Said.TheVariants.{Poll, Forget, Return}
use Rattle.journal.specs.declared.records.Refusal.TheVariants.{Closed}
use Rattle.journal.specs.declared.records.Reply.{Reply}
use Rattle.journal.specs.declared.records.Reply.TheVariants.{Verdict, Piece, Taken, Done, Refused}
use Rattle.world.specs.Merging.{IsMerged, findings}

-- A taken result, with the number of the job that took it.
pub record Result : Type 0 where
  pub job : ℕ
  pub part : PieceResultValue

-- A workbench with its results beside it, the newest first.
pub record KeptBook : Type 0 where
  pub state : Workbench
  pub results : List Result

-- What the actors hold stands beside the number of the actor that holds it.
pub record World : Type 0 where
  pub limits : Limits
  pub book : KeptBook
  pub journal : List Line
  pub pieces : List (ℕ × PieceValue)
  pub parts : List (ℕ × PieceResultValue)

-- an empty book, and nobody holds anything
abbrev pub beginning : Limits → World
beginning limits = record { limits = limits; book = record { state = empty limits; results = [] }; journal = []; pieces = []; parts = [] }

-- the results of a job
abbrev pub results_of : List Result → ℕ → List PieceResultValue
results_of [] id = []
results_of (r ∷ rs) id = if r.job == id then r.part ∷ results_of rs id else results_of rs id

-- The verdict is put together from the job's results, once all slices are returned. Nothing says here that it is right.
abbrev pub IsPutTogether : List Result → ℕ → VerdictValue → Option Job → Type 0
IsPutTogether results id v None = ⊥
IsPutTogether results id v (Some job) = (is_done job ≡ true) × (v.work ≡ job.work) × (v.version ≡ job.version) × IsMerged job.work.test (findings (results_of results id)) v.finding

-- a call to a book that is not closed: as the workbench has it, but for a poll's verdict
abbrev pub OpenKept : KeptBook → ℕ → Said → Reply → Workbench → Type 0
OpenKept k seat (Poll id) (Verdict v) s' = IsPutTogether k.results id v (job_of k.state.jobs id) × (s' ≡ k.state)
OpenKept k seat said reply s' = OpenStep k.state seat said reply s'

abbrev pub KeptStep : KeptBook → ℕ → Said → Reply → Workbench → Type 0
KeptStep k seat said reply s' = ((k.state.closed ≡ true) × (reply ≡ Refused Closed) × (s' ≡ k.state)) ⊎ ((k.state.closed ≡ false) × OpenKept k seat said reply s')

-- what becomes of the results: those of a forgotten job go
abbrev pub left : Said → Reply → List Result → List Result
left (Forget id) Done rs = filter (λ r. not (r.job == id)) rs
left said reply rs = rs

-- and a taken one is added, for the job of its claim
abbrev pub with_taken : Reply → ℕ → PieceResultValue → List Result → List Result
with_taken (Taken d n) job part rs = record { job = job; part = part } ∷ rs
with_taken reply job part rs = rs

abbrev pub claimed_job : Workbench → ℕ → ℕ → ℕ
claimed_job s claim seat = option_map_or (λ c. c.job) (claim_of s.live claim seat) 0

-- who claims gets the piece
abbrev pub with_piece : ℕ → Reply → List (ℕ × PieceValue) → List (ℕ × PieceValue)
with_piece actor (Piece p) pieces = (actor, p) ∷ pieces
with_piece actor reply pieces = pieces

-- A return is made with a result.
abbrev pub IsNoReturn : Said → Type 0
IsNoReturn (Return r) = ⊥
IsNoReturn said = Unit {0}

-- The result is right for its own work and range.
abbrev pub IsRight : PieceResultValue → Type 0
IsRight r = IsPart r.piece.work.test r.piece.work.model.items r.piece.from r.piece.to r.found

-- those that others hold
abbrev pub of_others : {X : Type 0} → ℕ → List (ℕ × X) → List (ℕ × X)
of_others actor held = filter (λ h. not (h.0 == actor)) held

-- What can happen: a call, a return of a result that is held, a call that is refused whole, an evaluation of a piece that
-- is held, done or refused, a piece or a result handed on, a result that was made elsewhere, an actor that vanishes.
pub data Event : Type 0 where
  calls : (actor seat : ℕ) → Said → Reply → Event
  returns : (actor seat : ℕ) → PieceResultValue → Reply → Event
  refused_whole : (actor seat : ℕ) → Said → Event
  evaluates : (actor : ℕ) → PieceValue → FindingValue → Event
  fails : (actor : ℕ) → PieceValue → Event
  hands_piece : (from to place : ℕ) → PieceValue → Event
  hands_part : (from to place : ℕ) → PieceResultValue → Event
  brings : (actor : ℕ) → PieceResultValue → Event
  vanishes : (actor : ℕ) → Event

-- the journal with this call
abbrev pub with_line : List Line → ℕ → Said → Reply → List Line
with_line journal seat said reply = journal ++ record { place = length journal; seat = seat; said = said; reply = reply } ∷ []

-- What an event may make of a world. Each call is of any seat. After a return the actor still holds the result. A call that is
-- refused whole, as for want of memory or a full journal, changes nothing; nor does an evaluation for which there is no memory.
abbrev pub Happens : World → Event → World → Type 0
Happens w (calls actor seat said reply) w' =
    IsNoReturn said × (length w.journal < w.limits.journal)
    × ((s : Workbench) × KeptStep w.book seat said reply s
    × (w' ≡ record w { book = record { state = s; results = left said reply w.book.results }; journal = with_line w.journal seat said reply; pieces = with_piece actor reply w.pieces }))
Happens w (returns actor seat part reply) w' =
    IsIn (actor, part) w.parts × (length w.journal < w.limits.journal)
    × ((s : Workbench) × Step w.book.state seat (Return (returned part)) reply s
    × (w' ≡ record w { book = record { state = s; results = with_taken reply (claimed_job w.book.state part.piece.claim seat) part w.book.results }; journal = with_line w.journal seat (Return (returned part)) reply }))
Happens w (refused_whole actor seat said) w' = w' ≡ w
Happens w (evaluates actor piece found) w' =
    IsIn (actor, piece) w.pieces × IsPart piece.work.test piece.work.model.items piece.from piece.to found
    × (w' ≡ record w { parts = (actor, record { piece = piece; found = found }) ∷ w.parts })
Happens w (fails actor piece) w' = IsIn (actor, piece) w.pieces × (w' ≡ w)
Happens w (hands_piece from to place piece) w' = (slice_get w.pieces place ≡ Some (from, piece)) × (w' ≡ record w { pieces = slice_set w.pieces place (to, piece) })
Happens w (hands_part from to place part) w' = (slice_get w.parts place ≡ Some (from, part)) × (w' ≡ record w { parts = slice_set w.parts place (to, part) })
Happens w (brings actor part) w' = IsRight part × (w' ≡ record w { parts = (actor, part) ∷ w.parts })
Happens w (vanishes actor) w' = w' ≡ record w { pieces = of_others actor w.pieces; parts = of_others actor w.parts }

-- these events, one after another
abbrev pub Passes : World → List Event → World → Type 0
Passes w [] w' = w' ≡ w
Passes w (e ∷ es) w' = (mid : World) × Happens w e mid × Passes mid es w'

-- the slice at this place of the job of this number is there, and is returned or not
abbrev pub IsSlot : List Job → Bool → ℕ × ℕ → Type 0
IsSlot js b at = (job : Job) × (job_of js at.0 ≡ Some job) × ((x : Slice) × (slice_get job.slices at.1 ≡ Some x) × (x.returned ≡ b))

-- the job and the slice that a result is for
abbrev pub slot : Result → ℕ × ℕ
slot r = (r.job, r.part.piece.slice)

-- The result is of its job's work and of the range of its slice, and right there.
abbrev pub IsRightFor : List Job → Result → Type 0
IsRightFor js r = (job : Job) × (job_of js r.job ≡ Some job) × (r.part.piece.work ≡ job.work) × HasRange (slice_get job.slices r.part.piece.slice) r.part.piece.from r.part.piece.to
    × IsPart job.work.test job.work.model.items r.part.piece.from r.part.piece.to r.part.found

-- A replied verdict is right.
abbrev pub SaysRight : Reply → Type 0
SaysRight (Verdict v) = IsVerdict v.work.test v.work.model.items v.finding
SaysRight reply = Unit {0}

-- What holds of the world.
pub record IsSound (w : World) : Type 0 where
  -- The journal is legal: it leads to the workbench.
  pub leads : Leads w.limits w.journal w.book.state
  -- A number is that of one job,
  pub distinct : NoRepeats (map (λ j. j.number) w.book.state.jobs)
  -- the results are those of the returned slices, each once,
  pub exact : Lists (IsSlot w.book.state.jobs true) (map slot w.book.results)
  -- and each is right for its job.
  pub right : (r : Result) → IsIn r w.book.results → IsRightFor w.book.state.jobs r
  -- Each verdict replied is right.
  pub said : (e : Line) → IsIn e w.journal → SaysRight e.reply
  -- What is put together from a job's results, once all are there, is right.
  pub verdict : (id : ℕ) (v : VerdictValue) (job : Job) → job_of w.book.state.jobs id ≡ Some job → IsPutTogether w.book.results id v (Some job) → IsVerdict v.work.test v.work.model.items v.finding

-- The law: after every list of events.
abbrev pub SoundWorld : Type 0
SoundWorld = (limits : Limits) (es : List Event) (w : World) → Passes (beginning limits) es w → IsSound w
