-- Computed examples of steps and journals.
use Rattle.std.specs.Prelude.{◌≡◌, refl, true, [], ◌∷◌, codes}
use Rattle.std.proofs.Common.{inr}
use Rattle.book.specs.Jobs.{mark}
use Rattle.book.specs.Step.{Step, Legal}
use Rattle.book.specs.Workbench.{empty}
use Rattle.book.specs.declared.limits.Limits.{Limits}
use Rattle.book.specs.declared.slice.Slice.{Slice}
use Rattle.journal.specs.declared.records.Refusal.TheVariants.{NoJob, NoTest}
use Rattle.journal.specs.declared.records.Reply.TheVariants.{Nothing, Refused}
use Rattle.journal.specs.declared.records.Said.TheVariants.{Ask, Poll, Claim}

abbrev pub limits : Limits
limits = record { journal = 2; versions = 1; claims = 1 }

-- an empty book has no job, no test and nothing to do
pub poll_of_none : Step (empty limits) 3 (Poll 1) (Refused (NoJob 1)) (empty limits)
poll_of_none = inr (refl, (refl, refl))

pub ask_of_none : Step (empty limits) 3 (Ask (codes "SB") (codes "stdlib.cat")) (Refused (NoTest (codes "SB"))) (empty limits)
ask_of_none = inr (refl, (refl, refl))

pub nothing_to_claim : Step (empty limits) 3 Claim Nothing (empty limits)
nothing_to_claim = inr (refl, (refl, refl))

-- so this journal is legal
pub two_calls : Legal limits (record { place = 0; seat = 3; said = Poll 1; reply = Refused (NoJob 1) } ∷ record { place = 1; seat = 4; said = Claim; reply = Nothing } ∷ [])
two_calls = (empty limits, (refl, (empty limits, inr (refl, (refl, refl)), (refl, (empty limits, inr (refl, (refl, refl)), refl)))))

-- the second of two slices is returned
pub second : (a b : Slice) → mark 1 (a ∷ b ∷ []) ≡ a ∷ record b { returned = true } ∷ []
second a b = refl
