-- Counts that grow.
use Rattle.std.specs.Prelude.{ℕ, ◌+◌, Bool, if◌then◌else◌}
use Rattle.slices.specs.Findings.{FindingValue}

-- so many executions more that have the proposition, or have it not
abbrev pub with_count : FindingValue → Bool → ℕ → FindingValue
with_count v has times = record v { positive = v.positive + (if has then times else 0); negative = v.negative + (if has then 0 else times) }
