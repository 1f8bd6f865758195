-- What was learned of executions.
use Rattle.std.specs.Prelude.{◌≡◌, ℕ, ◌<◌, ◌≤◌, List, All, Some, IfSome}
use Rattle.listings.specs.Lists.{StandsAt}
use Rattle.candidates.specs.Candidates.{Choices, graph_at}
use Rattle.cat_tree.specs.Tree.{Clause}
use Rattle.events.specs.Executions.{GraphValue}
use Rattle.events.specs.Structures.{structure_of}
use Rattle.slices.specs.Reasons.{IsFatal}
use Rattle.slices.specs.declared.lesson.Lesson.{Lesson}
use Rattle.slices.specs.declared.lessons.Lessons.{Lessons}

-- Each fatal reason is fatal in the executions of the lesson's structure.
abbrev pub IsLesson : List Clause → Lesson → Type 0
IsLesson items l = All (IsFatal items l.structure.structure) l.fatal.items

-- The executions at these numbers have the structure of the lesson at the place, if there is one.
abbrev pub AreAlike : Choices → Lessons → Type 0
AreAlike s m = (n : ℕ) (x : GraphValue) → m.alike.from ≤ n → n < m.alike.to → graph_at s n ≡ Some x → IfSome m.place (λ k. (l : Lesson) → StandsAt m.list.items k l → l.structure.structure ≡ structure_of x)

-- What was learned is right for these candidates under a model of these items.
abbrev pub AreLearned : Choices → List Clause → Lessons → Type 0
AreLearned s items m = All (IsLesson items) m.list.items × AreAlike s m
