-- What is replied once all numbers of a work are done.
use Rattle.std.specs.Prelude.{ℕ}
use Rattle.slices.specs.Findings.{FindingValue}
use Rattle.slices.specs.Works.{WorkValue}

-- The finding of a work, with the version of the test.
pub record VerdictValue : Type 0 where
  pub work : WorkValue
  pub version : ℕ
  pub finding : FindingValue
