-- What a run tells of a test. (docs/COMMAND.md, "What is printed" and "What is refused".)
use Rattle.std.specs.Prelude.{◌≡◌, ℕ, List, [], ◌++◌, map, Bool, true, false, Result, Ok, Err, codes, string_bytes}
use Rattle.std.specs.List.{zip}
use Rattle.cat_model.specs.Models.{Assembly}
use Rattle.slices.specs.VerdictValues.{VerdictValue}
use Rattle.suite.specs.Judged.{HasNone, HasVerdicts}
use Rattle.suite.specs.declared.case.Case.{Case}
use Rattle.suite.specs.declared.fault.TestTrouble.{TestTrouble}
use Rattle.outcome.specs.Forms.{differ, lines_text}
use Rattle.outcome.specs.Reasons.{AreExplained}
use Rattle.outcome.specs.Refusals.{Tells, refusals_text, refused_rows}
use Rattle.outcome.specs.Rows.{if_kept, texts_of, verdict_rows}
use Rattle.outcome.specs.declared.counts.Fate.{Fate}
use Rattle.outcome.specs.declared.counts.Fate.TheVariants.{Judged, Refused, Unread}
use Rattle.outcome.specs.declared.form.Tested.{Tested}
use Rattle.outcome.specs.declared.form.Wanted.{Wanted}
use Rattle.outcome.specs.declared.told.Told.{Told}
use Rattle.inputs.specs.Loaded.{AreCases, AreLoaded, Labels}
use Rattle.inputs.specs.declared.test.Asked.{Asked}
use Rattle.inputs.specs.declared.test.Stage.{Stage}
use Rattle.inputs.specs.declared.test.Stage.TheVariants.{Waiting, Done, Lost}

-- The form that is asked for, with the models' own names above the columns of a table.
pub record IsWanted (a : Asked) (w : Wanted) : Type 0 where
  pub form_is : w.form ≡ a.form
  pub width_is : w.width ≡ a.width
  pub models_are : map (λ m. m.items) w.models.now ≡ a.models.now.names
  pub keeps_is : w.keeps_rows ≡ a.keeps_rows

-- the test of this path and text, under each of the models of the run
pub record IsTested (models : Labels) (path text : List ℕ) (t : Tested) : Type 0 where
  pub path_is : t.path.now ≡ path
  pub text_is : t.text.now ≡ text
  pub cases_are : AreCases path models.names models.digests t.cases.now

-- why the verdicts are what they are, where that is asked for
abbrev pub IsWhyAdded : Bool → (old new : Told) → List Case → List VerdictValue → Type 0
IsWhyAdded true old new cs vs = AreExplained old.why.items old.dot.items (zip cs vs) new.why.items new.dot.items
IsWhyAdded false old new cs vs = (new.why ≡ old.why) × (new.dot ≡ old.dot)

-- What is added for verdicts, which took so many milliseconds: the texts of each under its own model.
pub record TellsVerdicts (a : Asked) (milliseconds : ℕ) (path text : List ℕ) (verdicts : List VerdictValue) (old new : Told) : Type 0 where
  pub wanted : Wanted
  pub as_asked : IsWanted a wanted
  pub tested : Tested
  pub same_test : IsTested a.models.now path text tested
  pub time_is : tested.milliseconds ≡ milliseconds
  pub lines : new.lines.items ≡ old.lines.items ++ lines_text wanted tested verdicts
  pub rows : map texts_of new.rows.items ≡ map texts_of old.rows.items ++ if_kept wanted.keeps_rows (verdict_rows tested.cases.now verdicts)
  pub differs : new.differs ≡ differ verdicts
  pub why : IsWhyAdded a.explains old new tested.cases.now verdicts
  pub message : new.message ≡ old.message

-- What is added for a refusal, which took so many milliseconds: the number and name under each of the models, and the message of the fault.
pub record TellsRefusal (a : Asked) (milliseconds : ℕ) (path text : List ℕ) (trouble : TestTrouble) (old new : Told) : Type 0 where
  pub wanted : Wanted
  pub as_asked : IsWanted a wanted
  pub tested : Tested
  pub same_test : IsTested a.models.now path text tested
  pub time_is : tested.milliseconds ≡ milliseconds
  pub lines : new.lines.items ≡ old.lines.items ++ refusals_text wanted tested trouble
  pub rows : map texts_of new.rows.items ≡ map texts_of old.rows.items ++ if_kept wanted.keeps_rows (refused_rows tested trouble)
  pub message : Tells path text trouble (string_bytes new.message)
  pub differs : new.differs ≡ old.differs
  pub why : (new.why ≡ old.why) × (new.dot ≡ old.dot)

-- A test that was judged: the verdicts, each right for the text under its own model, and what is told of them.
pub record IsJudged (MayTell : ℕ → Type 0) (a : Asked) (path text : List ℕ) (old new : Told) : Type 0 where
  pub models : List Assembly
  pub loaded : AreLoaded models a.models.now.names a.models.now.digests
  pub verdicts : List VerdictValue
  pub right : HasVerdicts text models verdicts
  pub milliseconds : ℕ
  pub time : MayTell milliseconds
  pub told : TellsVerdicts a milliseconds path text verdicts old new

-- A test that has no verdict: why the text has none, and what is told of that.
pub record IsRefused (MayTell : ℕ → Type 0) (a : Asked) (path text : List ℕ) (old new : Told) : Type 0 where
  pub trouble : TestTrouble
  pub cause : HasNone text trouble
  pub milliseconds : ℕ
  pub time : MayTell milliseconds
  pub told : TellsRefusal a milliseconds path text trouble old new

-- how far a test is of which this is told, if there was memory
abbrev pub stage_of : {A E : Type 0} → Fate → Result A E → Stage
stage_of fate (Ok _) = Done fate
stage_of fate (Err _) = Lost

-- It waits no more.
abbrev pub IsSettled : Stage → Type 0
IsSettled Waiting = ⊥
IsSettled stage = Unit {0}

-- nothing to print or to store
pub record IsUntold (t : Told) : Type 0 where
  pub lines : t.lines.items ≡ []
  pub why : t.why.items ≡ []
  pub dot : t.dot.items ≡ []
  pub rows : t.rows.items ≡ []
  pub differs : t.differs ≡ false

-- What is told of a test that was read, or couldn't be: nothing, or the path and why.
abbrev pub IsRead : (path : List ℕ) → Stage → Told → Type 0
IsRead path Waiting t = IsUntold t × (string_bytes t.message ≡ [])
IsRead path (Done Unread) t = IsUntold t × ((why : List ℕ) × (string_bytes t.message ≡ path ++ (codes ": " ++ (why ++ codes "\n"))))
IsRead path stage t = ⊥

-- What is told of a test, by how far it is, where this may be told of how long it took. Where memory ran out, nothing is known of it.
abbrev pub IsTold : (MayTell : ℕ → Type 0) → Asked → (path text : List ℕ) → Stage → (old new : Told) → Type 0
IsTold M a path text Waiting old new = new ≡ old
IsTold M a path text (Done Judged) old new = IsJudged M a path text old new
IsTold M a path text (Done Refused) old new = IsRefused M a path text old new
IsTold M a path text (Done Unread) old new = ⊥
IsTold M a path text Lost old new = Unit {0}
