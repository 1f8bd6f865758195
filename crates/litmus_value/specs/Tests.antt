-- The parts that a test is kept as, and its key.
use Rattle.std.specs.Prelude.{◌≡◌, ℕ, List, []}
use Rattle.litmus_tree.specs.Spellings.{spelled_litmus}
use Rattle.litmus_tree.specs.Tree.{Litmus}
use Rattle.litmus_value.specs.Limits.{IsTest}
use Rattle.litmus_value.specs.declared.test.Parts.{Parts}

abbrev pub litmus_of : Parts → Litmus
litmus_of p = record { name = p.name; initial = p.initial.items; threads = p.threads.items; condition = p.condition; listed = p.listed.items; locations = p.locations.items }

-- what a test is written as
unfoldable pub key_of : Litmus → List ℕ
key_of t = spelled_litmus.over t []

-- the parts are those of a test, and the key is its key
pub record IsKept (p : Parts) : Type 0 where
  pub test : IsTest (litmus_of p)
  pub key : p.key ≡ key_of (litmus_of p)
