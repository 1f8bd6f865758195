-- What is known of the final states that were found last. No statement on what is found rests on this.
use Rattle.std.specs.Prelude.{◌≡◌, ℕ, List, length}
use Rattle.listings.specs.Lists.{IsIn}
use Rattle.slices.specs.declared.recent.Known.{Known}
use Rattle.slices.specs.declared.recent.Recent.{Recent}
use Rattle.slices.specs.Findings.{FindingValue}
use Rattle.slices.specs.Numbers.{AreDigits, with_values}
use Rattle.slices.specs.Sums.{state_has}

-- the state with this number is among those that are found, and has the proposition or not
abbrev pub IsKnown : FindingValue → ℕ → Known → Type 0
IsKnown v base k = (row : List ℕ) → length row ≡ length v.places → AreDigits base row → with_values base 0 row ≡ k.number → IsIn row v.states × (k.has ≡ state_has v row)

abbrev pub AreKnown : FindingValue → ℕ → Recent → Type 0
AreKnown v base r = (k : Known) → IsIn k r.states → IsKnown v base k
