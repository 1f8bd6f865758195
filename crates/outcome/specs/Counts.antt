-- What a run has come to, its status, and its last line: `1,000 tests: 981 judged, 18 refused, 1 not read`.
-- (docs/COMMAND.md, "What is printed" and "Status, threads and time".)
use Rattle.std.specs.Prelude.{ℕ, ◌+◌, ◌-◌, ◌^◌, ◌%◌, min, Bool, List, [], ◌∷◌, ◌++◌, length, ◌==◌, if◌then◌else◌, codes, decimal}
use Rattle.outcome.specs.declared.counts.Counts.{Counts}
use Rattle.outcome.specs.declared.counts.Fate.{Fate}
use Rattle.outcome.specs.declared.counts.Fate.TheVariants.{Judged, Refused, Unread}
use Rattle.outcome.specs.declared.counts.Status.{Status}
use Rattle.outcome.specs.declared.counts.Status.TheVariants as statuses
use Rattle.outcome.specs.declared.form.Form.{Form}
use Rattle.outcome.specs.declared.form.Form.TheVariants.{Table}

-- tests that couldn't be read, and no others
abbrev pub unread_alone : ℕ → Counts
unread_alone n = record { judged = 0; refused = 0; unread = n; differing = 0 }

-- one more, up to the most that 64 bits hold
abbrev pub one_more : ℕ → ℕ
one_more n = min (n + 1) (2 ^ 64 - 1)

-- one test more has this fate
abbrev pub with_fate : Fate → Counts → Counts
with_fate Judged c = record c { judged = one_more c.judged }
with_fate Refused c = record c { refused = one_more c.refused }
with_fate Unread c = record c { unread = one_more c.unread }

-- and the models tell it apart, or they don't
abbrev pub counted : Fate → Bool → Counts → Counts
counted fate differs c = let d = with_fate fate c in if differs then record d { differing = one_more d.differing } else d

-- that something differs from what is expected, else that a test couldn't be read, else that one was refused
abbrev pub status : Bool → Counts → Status
status differs c = if differs then statuses.Differs else if c.unread == 0 then (if c.refused == 0 then statuses.Done else statuses.Refused) else statuses.Failed

-- the number with which the program ends
abbrev pub code : Status → ℕ
code statuses.Done = 0
code statuses.Failed = 1
code statuses.Refused = 2
code statuses.Differs = 3

-- a comma before three, six, .. digits
abbrev pub comma_before : List ℕ → List ℕ
comma_before [] = []
comma_before (d ∷ ds) = if length (d ∷ ds) % 3 == 0 then codes "," else []

-- the digits, a comma behind each that three, six, .. stand behind
abbrev pub grouped : List ℕ → List ℕ
grouped [] = []
grouped (d ∷ ds) = d ∷ (comma_before ds ++ grouped ds)

abbrev pub number_text : ℕ → List ℕ
number_text n = grouped (decimal n)

abbrev pub tests_text : ℕ → List ℕ
tests_text n = if n == 1 then codes " test: " else codes " tests: "

abbrev pub all : Counts → ℕ
all c = c.judged + c.refused + c.unread

abbrev pub counts_text : Counts → List ℕ
counts_text c =
    number_text (all c) ++ tests_text (all c) ++ number_text c.judged ++ codes " judged, " ++ number_text c.refused ++ codes " refused, " ++ number_text c.unread ++ codes " not read"

-- how many tests have a star
abbrev pub starred_text : Counts → List ℕ
starred_text c = codes "; the models differ in " ++ (number_text c.differing ++ codes " (*)")

-- It is told below a table alone.
abbrev pub differing_text : Form → Counts → List ℕ
differing_text Table c = starred_text c
differing_text form c = []

abbrev pub last_line : Form → Counts → List ℕ
last_line form c = counts_text c ++ differing_text form c ++ codes "\n"
