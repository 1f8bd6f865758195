-- What a verdict says of a test.
use Rattle.std.specs.Prelude.{ℕ, List, Bool, ◌==◌, if◌then◌else◌, codes}
use Rattle.litmus_tree.specs.Tree.{Word}
use Rattle.conditions.specs.Conditions.{Formula}
use Rattle.conditions.specs.States.{answers_ok}
use Rattle.conditions.specs.declared.condition.Kind.{Kind}
use Rattle.conditions.specs.declared.place.Place.{Place}

-- The test's name and question, the observed places, how many executions have the proposition and how many have it
-- not, the distinct final states as values at the observed places, and the raised flags.
pub record FindingValue : Type 0 where
  pub name : Word
  pub kind : Kind
  pub formula : Formula
  pub places : List Place
  pub positive : ℕ
  pub negative : ℕ
  pub states : List (List ℕ)
  pub flags : List Word

-- whether the answer to the question is yes
abbrev pub is_ok : FindingValue → Bool
is_ok v = answers_ok v.kind v.positive v.negative

-- how often the proposition was seen (herd7 manual, the output of herd7)
abbrev pub word : FindingValue → List ℕ
word v = if v.positive == 0 then codes "Never" else (if v.negative == 0 then codes "Always" else codes "Sometimes")
