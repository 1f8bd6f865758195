-- Small worlds with one job, in which the definition is seen to move.
use Rattle.std.specs.Prelude.{◌≡◌, ℕ, Bool, true, false, List, [], ◌∷◌, None, Some}
use Rattle.cat_model.specs.declared.model.FileVersion.{FileVersion}
use Rattle.conditions.specs.Conditions.{truth}
use Rattle.conditions.specs.declared.condition.Kind.TheVariants.{Exists}
use Rattle.litmus_tree.specs.Tree.{Litmus, Word}
use Rattle.slices.specs.Findings.{FindingValue}
use Rattle.slices.specs.Parts.{PieceResultValue, PieceValue, IsPart}
use Rattle.slices.specs.Works.{WorkValue}
use Rattle.book.specs.Jobs as jobs
use Rattle.book.specs.Workbench.{Workbench}
use Rattle.book.specs.declared.live.Live.{Live}
use Rattle.book.specs.declared.names.TestSlot.{TestSlot}
use Rattle.book.specs.declared.slice.Slice.{Slice}
use Rattle.journal.specs.declared.records.Said.TheVariants.{DropTest, Poll, Release, Claim}
use Rattle.journal.specs.declared.records.SourceKind.TheVariants.{Test}
use Rattle.journal.specs.declared.records.Refusal.TheVariants.{NoClaim, Replaced}
use Rattle.journal.specs.declared.records.Reply.TheVariants.{Version, Pending, Verdict, Piece, Nothing, Taken, Freed, Refused}
use Rattle.world.specs.World.{World, Event, calls, returns, evaluates, vanishes, Passes, Result}

-- the test's name
abbrev pub name : Word
name = 84 ∷ []

abbrev pub test : Litmus
test = record { name = name; initial = []; threads = []; condition = record { kind = Exists; formula = truth }; listed = []; locations = [] }

abbrev pub file : FileVersion
file = record { name = 109 ∷ []; version = 1 }

abbrev pub task : WorkValue
task = record { test = test; model = record { items = []; files = file ∷ [] } }

-- the job's one slice, or its two, of which the first has the test's one number
abbrev pub one : Bool → List Slice
one returned = record { from = 0; to = 1; returned = returned } ∷ []

abbrev pub two : Bool → Bool → List Slice
two first second = record { from = 0; to = 1; returned = first } ∷ record { from = 1; to = 1; returned = second } ∷ []

abbrev pub job : List Slice → jobs.Job
job slices = record { number = 1; version = 1; work = task; slices = slices }

-- the test as it was asked for, and after a drop
abbrev pub loaded : TestSlot
loaded = record { version = 1; tree = Some test }

abbrev pub dropped : TestSlot
dropped = record { version = 2; tree = None }

-- the test so, its job's slices, its claims and the last claim's number
abbrev pub bench : TestSlot → List Slice → List Live → ℕ → Workbench
bench at slices live last = record {
  limits = record { journal = 100; versions = 100; claims = 100 };
  tests = (name, at) ∷ [];
  cats = record { name = 109 ∷ []; version = 1; file = None } ∷ [];
  jobs = job slices ∷ [];
  live = live;
  last_job = 1;
  last_claim = last;
  closed = false;
}

-- a claim of the first slice with this number and seat, its piece, and what is found of it
abbrev pub claim : ℕ → ℕ → Live
claim number seat = record { number = number; seat = seat; job = 1; slice = 0 }

abbrev pub piece : ℕ → PieceValue
piece number = record { claim = number; job = 1; slice = 0; from = 0; to = 1; work = task }

abbrev pub part : ℕ → FindingValue → PieceResultValue
part number q = record { piece = piece number; found = q }

-- the same of the second slice
abbrev pub claim_rest : ℕ → ℕ → Live
claim_rest number seat = record { number = number; seat = seat; job = 1; slice = 1 }

abbrev pub rest : ℕ → PieceValue
rest number = record { claim = number; job = 1; slice = 1; from = 1; to = 1; work = task }

abbrev pub part_rest : ℕ → FindingValue → PieceResultValue
part_rest number q = record { piece = rest number; found = q }

-- the job is asked for, and nobody has claimed yet
abbrev pub start : List Slice → World
start slices = record { limits = record { journal = 100; versions = 100; claims = 100 }; book = record { state = bench loaded slices [] 0; results = [] }; journal = []; pieces = []; parts = [] }

-- these events lead from there to a world with this book and these things held
abbrev pub LeadTo : List Slice → List Event → Workbench → List Result → List (ℕ × PieceValue) → List (ℕ × PieceResultValue) → Type 0
LeadTo slices es s results pieces parts = (w : World) × Passes (start slices) es w × (w.book.state ≡ s) × (w.book.results ≡ results) × (w.pieces ≡ pieces) × (w.parts ≡ parts)

-- A worker claims and vanishes: its claim stays, and the slice isn't given, until it is released.
abbrev pub LostWorker : Type 0
LostWorker = LeadTo (one false)
    (calls 1 1 Claim (Piece (piece 1)) ∷ vanishes 1 ∷ calls 2 2 Claim Nothing ∷ calls 0 0 (Release 1) (Freed 1) ∷ calls 2 2 Claim (Piece (piece 2)) ∷ [])
    (bench loaded (one false) (claim 2 2 ∷ []) 2) [] ((2, piece 2) ∷ []) []

-- A result that comes back after a release is refused, and the result of the second claim is taken, once.
abbrev pub LateReturn : Type 0
LateReturn = (q : FindingValue) → IsPart test [] 0 1 q → LeadTo (one false)
    (calls 1 1 Claim (Piece (piece 1)) ∷ evaluates 1 (piece 1) q ∷ calls 0 0 (Release 1) (Freed 1) ∷ calls 2 2 Claim (Piece (piece 2))
    ∷ returns 1 1 (part 1 q) (Refused (NoClaim 1)) ∷ evaluates 2 (piece 2) q ∷ returns 2 2 (part 2 q) (Taken 1 1) ∷ returns 2 2 (part 2 q) (Refused (NoClaim 2)) ∷ [])
    (bench loaded (one true) [] 2) (record { job = 1; part = part 2 q } ∷ []) ((2, piece 2) ∷ (1, piece 1) ∷ []) ((2, part 2 q) ∷ (1, part 1 q) ∷ [])

-- The test is dropped between a claim and its return: no slice is given any more, and the result is refused and ends the claim.
abbrev pub ReplacedReturn : Type 0
ReplacedReturn = (q : FindingValue) → IsPart test [] 0 1 q → LeadTo (one false)
    (calls 1 1 Claim (Piece (piece 1)) ∷ evaluates 1 (piece 1) q ∷ calls 0 0 (DropTest name) (Version name 2) ∷ calls 2 2 Claim Nothing
    ∷ returns 1 1 (part 1 q) (Refused (Replaced (record { kind = Test; name = name; version = 2 }))) ∷ returns 1 1 (part 1 q) (Refused (NoClaim 1)) ∷ [])
    (bench dropped (one false) [] 1) [] ((1, piece 1) ∷ []) ((1, part 1 q) ∷ [])

-- The test has one execution, without events, and the empty model allows it. This is found of the first slice, and nothing of the second.
abbrev pub tiny : FindingValue
tiny = record { name = name; kind = Exists; formula = truth; places = []; positive = 1; negative = 0; states = [] ∷ []; flags = [] }

abbrev pub none : FindingValue
none = record { name = name; kind = Exists; formula = truth; places = []; positive = 0; negative = 0; states = []; flags = [] }

-- Of two workers one is lost with its piece. The other returns a result for the second slice, and after a release for the first,
-- too; the poll's verdict is put together of both.
abbrev pub WholeWay : Type 0
WholeWay = LeadTo (two false false)
    (calls 1 1 Claim (Piece (piece 1)) ∷ calls 2 2 Claim (Piece (rest 2)) ∷ vanishes 1 ∷ evaluates 2 (rest 2) none ∷ returns 2 2 (part_rest 2 none) (Taken 1 2)
    ∷ calls 0 0 (Poll 1) (Pending 1 2) ∷ calls 0 0 (Release 1) (Freed 1) ∷ calls 2 2 Claim (Piece (piece 3)) ∷ evaluates 2 (piece 3) tiny ∷ returns 2 2 (part 3 tiny) (Taken 2 2)
    ∷ calls 0 0 (Poll 1) (Verdict (record { work = task; version = 1; finding = tiny })) ∷ [])
    (bench loaded (two true true) [] 3) (record { job = 1; part = part 3 tiny } ∷ record { job = 1; part = part_rest 2 none } ∷ [])
    ((2, piece 3) ∷ (2, rest 2) ∷ []) ((2, part 3 tiny) ∷ (2, part_rest 2 none) ∷ [])
