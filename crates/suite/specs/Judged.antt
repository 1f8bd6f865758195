-- The verdicts on a test under some models.
use Rattle.std.specs.Prelude.{◌≡◌, ℕ, List, All, map}
use Rattle.litmus_tree.specs.Tree.{Litmus}
use Rattle.litmus_c.specs.Reads.{Reads, IsRefused}
use Rattle.litmus_c.specs.declared.fault.TestFault.TheVariants as of_test
use Rattle.candidates.specs.Faults.{IsSpaceFault}
use Rattle.candidates.specs.declared.fault.SpaceFault.TheVariants as of_space
use Rattle.cat_model.specs.Models.{Assembly}
use Rattle.slices.specs.Verdicts.{IsVerdict}
use Rattle.slices.specs.VerdictValues.{VerdictValue}
use Rattle.slices.specs.Works.{WorkValue}
use Rattle.suite.specs.declared.fault.TestTrouble.{TestTrouble}
use Rattle.suite.specs.declared.fault.TestTrouble.TheVariants.{Test, Space, Late, NoMemory}

-- the test under each of the models
abbrev pub works_of : Litmus → List Assembly → List WorkValue
works_of t ms = map (λ m. record { test = t; model = m }) ms

-- The verdict is right for its test under its model.
abbrev pub IsRight : VerdictValue → Type 0
IsRight v = IsVerdict v.work.test v.work.model.items v.finding

-- They are right verdicts on the test, one under each of the models, in their order.
abbrev pub AreVerdicts : Litmus → List Assembly → List VerdictValue → Type 0
AreVerdicts t ms vs = (map (λ v. v.work) vs ≡ works_of t ms) × All IsRight vs

-- The text reads as a test, and they are its verdicts.
abbrev pub HasVerdicts : List ℕ → List Assembly → List VerdictValue → Type 0
HasVerdicts text ms vs = (t : Litmus) × Reads text t × AreVerdicts t ms vs

-- Why a test has no verdict: it has too many runs or candidates. Or it took too long, or memory ran out.
abbrev pub IsUntold : Litmus → TestTrouble → Type 0
IsUntold t (Space of_space.NoMemory) = ⊥
IsUntold t (Space fault) = IsSpaceFault t fault
IsUntold t (Test fault) = ⊥
IsUntold t Late = Unit {0}
IsUntold t NoMemory = Unit {0}

-- Why a text has no verdict: it reads as no test, or as one that has none.
abbrev pub HasNone : List ℕ → TestTrouble → Type 0
HasNone text (Test of_test.NoMemory) = ⊥
HasNone text (Test fault) = ((t : Litmus) → ¬ Reads text t) × IsRefused text fault
HasNone text (Space fault) = (t : Litmus) × Reads text t × IsUntold t (Space fault)
HasNone text Late = Unit {0}
HasNone text NoMemory = Unit {0}
