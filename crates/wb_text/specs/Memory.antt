-- Bytes of sources and sinks.
use Rattle.std.specs.Prelude.{◌≡◌, ℕ, ◌≤◌, List, ◌++◌, Bool, Option, length}
use Rattle.std.specs.Io.KnownBytes.{Appends, Consumes}

-- a source in memory: the bytes that are left, whether it fails in place of the end, and its mark of failure
pub record Left : Type 0 where
  pub bytes : List ℕ
  pub fails : Bool
  pub has_failed : Bool

-- a sink in memory: the bytes that it holds, for how many it has room in all, and its mark of failure
pub record Held : Type 0 where
  pub bytes : List ℕ
  pub room : ℕ
  pub has_failed : Bool

-- known bytes have lost at most n from the front
abbrev pub LosesAtMost : ℕ → Option (List ℕ) → Option (List ℕ) → Type 0
LosesAtMost n old new = (lost : List ℕ) × (length lost ≤ n) × Consumes old new lost

-- known bytes have grown by what stands in bs before rest
pub record AppendsUpTo (old new : Option (List ℕ)) (bs rest : List ℕ) : Type 0 where
  pub given : List ℕ
  pub split : bs ≡ given ++ rest
  pub grown : Appends old new given

-- known bytes have grown by a prefix of bs
abbrev pub AppendsPrefix : Option (List ℕ) → Option (List ℕ) → List ℕ → Type 0
AppendsPrefix old new bs = (rest : List ℕ) × AppendsUpTo old new bs rest
