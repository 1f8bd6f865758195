-- Why a verdict is what it is. (docs/WHY.md.)
use Rattle.std.specs.Prelude.{◌≡◌, ◌⊎◌, ℕ, List, [], ◌∷◌, ◌++◌, map, Bool, true, false, Option, None, Some, option_map, if◌then◌else◌, codes}
use Rattle.cat_tree.specs.Tree.{Word}
use Rattle.cat_tree.specs.declared.tree.CheckKind.{CheckKind}
use Rattle.cat_tree.specs.declared.tree.CheckKind.TheVariants.{Acyclic, Irreflexive, Empty}
use Rattle.conditions.specs.declared.condition.Kind.{Kind}
use Rattle.conditions.specs.declared.condition.Kind.TheVariants.{Exists, NotExists, Forall}
use Rattle.drawing.specs.Dots.{Dot}
use Rattle.drawing.specs.Texts.{Text}
use Rattle.drawing.specs.declared.drawing.Broken.{Broken}
use Rattle.drawing.specs.declared.drawing.Chain.{Chain}
use Rattle.drawing.specs.declared.drawing.Drawing.{Drawing}
use Rattle.events.specs.Executions.{GraphValue}
use Rattle.slices.specs.Questions.{IsAnswer}
use Rattle.slices.specs.VerdictValues.{VerdictValue}
use Rattle.slices.specs.Works.{WorkValue}
use Rattle.suite.specs.declared.case.Case.{Case}
use Rattle.witness.specs.Reasons.{IsWhy}
use Rattle.witness.specs.Witnesses.{IsFirst, IsFound, IsWitness}
use Rattle.witness.specs.declared.reasons.Evidence.{Evidence}
use Rattle.witness.specs.declared.reasons.Evidence.TheVariants.{Cycle, Itself, Pair, Member, Denied}
use Rattle.witness.specs.declared.reasons.Reason.{Reason}

-- WHAT IS ASKED

-- Of `exists` and `~exists` an execution with the proposition is looked for, of `forall` one without it.
abbrev pub asks_with : Kind → Bool
asks_with Exists = true
asks_with NotExists = true
asks_with Forall = false

-- HEADINGS

unfoldable pub allowed_heading : Bool → List ℕ
allowed_heading true = codes "An execution that the model allows, with the proposition:\n"
allowed_heading false = codes "An execution that the model allows, without the proposition:\n"

unfoldable pub forbidden_heading : Bool → List ℕ
forbidden_heading true = codes "No execution that the model allows has the proposition; the first of the others that has it:\n"
forbidden_heading false = codes "Each execution that the model allows has the proposition; the first of the others that has it not:\n"

unfoldable pub lack : Bool → List ℕ
lack true = codes "No execution of the test has the proposition, whatever the model.\n\n"
lack false = codes "Each execution of the test has the proposition, whatever the model.\n\n"

-- THE CHECK THAT IS BROKEN

abbrev pub kind_text : CheckKind → List ℕ
kind_text Acyclic = codes "acyclic"
kind_text Irreflexive = codes "irreflexive"
kind_text Empty = codes "empty"

abbrev pub name_text : Option Word → List ℕ
name_text None = []
name_text (Some name) = codes " " ++ name

-- `acyclic sc`, `~empty`
abbrev pub check_text : Reason → List ℕ
check_text r = (if r.negated then codes "~" else []) ++ kind_text r.kind ++ name_text r.name

-- a cycle ends where it begins
abbrev pub closed : List ℕ → List ℕ
closed [] = []
closed (event ∷ events) = event ∷ (events ++ event ∷ [])

-- the events of the evidence, each behind the one that leads to it
abbrev pub trail : Evidence → List ℕ
trail (Cycle events) = closed events.items
trail (Itself event) = event ∷ event ∷ []
trail (Pair from to) = from ∷ to ∷ []
trail (Member event) = event ∷ []
trail Denied = []

-- the chain goes along these events; the names of its arrows are left open
abbrev pub GoesAlong : List ℕ → Option Chain → Type 0
GoesAlong [] None = Unit {0}
GoesAlong (event ∷ events) (Some c) = (c.first ≡ event) × (map (λ s. s.to) c.steps.items ≡ events)
GoesAlong events c = ⊥

-- what is told of a check: nothing where there is no reason, else the check in words and its evidence
abbrev pub TellsReason : Option Reason → Option Broken → Type 0
TellsReason None None = Unit {0}
TellsReason (Some r) (Some b) = (b.check.now ≡ check_text r) × GoesAlong (trail r.evidence) (option_map (λ c. c.now) b.chain)
TellsReason r b = ⊥

-- DRAWINGS

-- what is drawn: an execution of the test of a work, under the name of the model
pub record Shows (w : WorkValue) (name : List ℕ) (x : GraphValue) (d : Drawing) : Type 0 where
  pub test : d.name.now ≡ w.test.name
  pub locations : d.locations.now ≡ w.test.locations
  pub graph : d.graph.now ≡ x
  pub under : option_map (λ m. m.now) d.model ≡ Some name

-- The bytes are a heading and the drawing of an execution, with what breaks the model; and the same for Graphviz.
pub record IsDrawn (w : WorkValue) (name heading : List ℕ) (x : GraphValue) (r : Option Reason) (why dot : List ℕ) : Type 0 where
  pub drawing : Drawing
  pub shows : Shows w name x drawing
  pub reason : TellsReason r drawing.broken
  pub written : why ≡ heading ++ Text drawing ++ codes "\n"
  pub drawn : dot ≡ Dot drawing

-- THE WHOLE

-- an execution that the model allows, the first by number that is as it is asked for
pub record IsAllowed (w : WorkValue) (has : Bool) (name why dot : List ℕ) : Type 0 where
  pub execution : GraphValue
  pub first : IsFirst w.test (IsWitness w.test w.model.items has) execution
  pub drawn : IsDrawn w name (allowed_heading has) execution None why dot

-- the first execution that is as it is asked for, where the model allows none, and why the model forbids it
pub record IsForbidden (w : WorkValue) (has : Bool) (name why dot : List ℕ) : Type 0 where
  pub execution : GraphValue
  pub first : IsFirst w.test (λ x. IsAnswer w.test x has) execution
  pub reason : Option Reason
  pub forbids : IsWhy w.model.items execution reason
  pub drawn : IsDrawn w name (forbidden_heading has) execution reason why dot

-- Where the model allows no execution that is as it is asked for: another that is, or that there is none.
abbrev pub IsLacking : WorkValue → Bool → (name why dot : List ℕ) → Type 0
IsLacking w has name why dot = IsForbidden w has name why dot ⊎ (IsFound w.test (λ x. IsAnswer w.test x has) None × (why ≡ lack has) × (dot ≡ []))

abbrev pub IsExplained : WorkValue → Bool → (name why dot : List ℕ) → Type 0
IsExplained w has name why dot = IsAllowed w has name why dot ⊎ (IsFound w.test (IsWitness w.test w.model.items has) None × IsLacking w has name why dot)

-- what is added for a verdict, under its own case
pub record Explains (old_why old_dot : List ℕ) (c : Case) (v : VerdictValue) (new_why new_dot : List ℕ) : Type 0 where
  pub why : List ℕ
  pub dot : List ℕ
  pub explained : IsExplained v.work (asks_with v.finding.kind) c.model.now why dot
  pub text : new_why ≡ old_why ++ why
  pub file : new_dot ≡ old_dot ++ dot

-- what is added for verdicts, one after another, each under its own case
abbrev pub AreExplained : (old_why old_dot : List ℕ) → List (Case × VerdictValue) → (new_why new_dot : List ℕ) → Type 0
AreExplained old_why old_dot [] new_why new_dot = (new_why ≡ old_why) × (new_dot ≡ old_dot)
AreExplained old_why old_dot (p ∷ ps) new_why new_dot = (why : List ℕ) × (dot : List ℕ) × Explains old_why old_dot p.0 p.1 why dot × AreExplained why dot ps new_why new_dot
