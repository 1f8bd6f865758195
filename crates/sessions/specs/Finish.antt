-- What a finished desk shows.
use Rattle.std.specs.Prelude.{◌≡◌, ◌≢◌, ◌⊎◌, ℕ, ◌+◌, ◌<◌, ◌≤◌, ◌==◌, Bool, true, false, List, [], ◌∷◌, length, filter, slice_get, Some}
use Rattle.std.specs.List.{AllByRecursion, list_any}
use Rattle.journal.specs.Lines.{Line}
use Rattle.book.specs.Step.{Legal}
use Rattle.book.specs.declared.limits.Limits.{Limits}
use Rattle.sessions.specs.Views.{PassView, IsOfSeat}
use Rattle.sessions.specs.declared.ending.FinishCause.{FinishCause}
use Rattle.sessions.specs.declared.ending.FinishCause.TheVariants.{MissingPass, Mismatch}

-- it is legal under some limits
abbrev pub IsLegal : List Line → Type 0
IsLegal journal = (limits : Limits) × Legal limits journal

-- a pass has this seat
abbrev pub has_seat : List PassView → ℕ → Bool
has_seat passes seat = list_any (λ p. p.seat == seat) passes

-- each seat below n has a pass
abbrev pub AllHere : ℕ → List PassView → Type 0
AllHere n passes = (seat : ℕ) → seat < n → has_seat passes seat ≡ true

-- how many receipts all passes have
abbrev pub receipts_of : List PassView → ℕ
receipts_of [] = 0
receipts_of (p ∷ ps) = length p.receipts + receipts_of ps

-- the entries of a seat, in order
abbrev pub of_seat : ℕ → List Line → List Line
of_seat seat journal = filter (λ line. line.seat == seat) journal

-- each receipt is the journal's entry at its place, and the places rise from next on
abbrev pub Fits : List Line → ℕ → List Line → Type 0
Fits journal next [] = Unit {0}
Fits journal next (r ∷ rs) = (next ≤ r.place) × (slice_get journal r.place ≡ Some r) × Fits journal (r.place + 1) rs

-- so of each pass, whose receipts are of its seat
abbrev pub AllFit : List Line → List PassView → Type 0
AllFit journal passes = AllByRecursion (λ p. IsOfSeat p.seat p.receipts × Fits journal 0 p.receipts) passes

-- a receipt of this place stands before next or not after the one before it, or is not the journal's entry there
abbrev pub Unfit : List Line → ℕ → List Line → ℕ → Type 0
Unfit journal next [] place = ⊥
Unfit journal next (r ∷ rs) place = ((r.place ≡ place) × ((r.place < next) ⊎ (slice_get journal place ≢ Some r))) ⊎ Unfit journal (r.place + 1) rs place

-- a pass has such a receipt
abbrev pub SomeUnfit : List Line → List PassView → ℕ → Type 0
SomeUnfit journal [] place = ⊥
SomeUnfit journal (p ∷ ps) place = Unfit journal 0 p.receipts place ⊎ SomeUnfit journal ps place

-- each pass's receipts are the journal's entries of its seat, in order, and no entry has another seat
pub record IsShared (journal : List Line) (passes : List PassView) : Type 0 where
  pub each : AllByRecursion (λ p. p.receipts ≡ of_seat p.seat journal) passes
  pub no_other : AllByRecursion (λ line. has_seat passes line.seat ≡ true) journal

-- what is amiss: the lowest seat that has no pass, or where each has one, a receipt that doesn't fit
abbrev pub IsAmiss : ℕ → List PassView → List Line → FinishCause → Type 0
IsAmiss n passes journal (MissingPass seat) = (seat < n) × (has_seat passes seat ≡ false) × AllHere seat passes
IsAmiss n passes journal (Mismatch place) = AllHere n passes × SomeUnfit journal passes place

-- When each fault comes. Each receipt is counted in the journal: where a pass is missing, so are its receipts, and the journal has at least the others.
abbrev pub IsFault : ℕ → List PassView → List Line → FinishCause → Type 0
IsFault n passes journal (MissingPass seat) = (seat < n) × (has_seat passes seat ≡ false) × AllHere seat passes × (receipts_of passes ≤ length journal)
IsFault n passes journal (Mismatch place) = AllHere n passes × (length journal ≡ receipts_of passes) × SomeUnfit journal passes place
