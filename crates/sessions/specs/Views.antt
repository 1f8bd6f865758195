-- A pass, as contracts see it.
use Rattle.std.specs.Prelude.{◌≡◌, ℕ, zero, suc, ◌+◌, ◌∷◌, ◌⊎◌, ◌<◌, List, [], length}
use Rattle.std.specs.List.{AllByRecursion}
use Rattle.journal.specs.Lines.{Line}
use Rattle.sessions.specs.declared.passes.Counts.{Counts}

pub record PassView : Type 0 where
  pub seat : ℕ
  pub receipts : List Line
  pub counts : Counts
  -- 1 until finish
  pub parts : ℕ

abbrev pub no_counts : Counts
no_counts = record { evaluated = 0; given_back = 0; refused = 0 }

-- a pass as it is opened
abbrev pub fresh : ℕ → PassView
fresh seat = record { seat = seat; receipts = []; counts = no_counts; parts = 1 }

-- n passes from a seat on
abbrev pub fresh_from : ℕ → ℕ → List PassView
fresh_from seat zero = []
fresh_from seat (suc n) = fresh seat ∷ fresh_from (seat + 1) n

-- a pass without its share
abbrev pub spent : PassView → PassView
spent pass = record pass { parts = 0 }

-- each is an entry of the seat
abbrev pub IsOfSeat : ℕ → List Line → Type 0
IsOfSeat seat lines = AllByRecursion (λ line. line.seat ≡ seat) lines

-- each receipt is of the seat, and the share counts them
pub record IsPass (seat : ℕ) (receipts : List Line) (parts : ℕ) (amount : ℕ) : Type 0 where
  pub low : seat < 64
  pub of_seat : IsOfSeat seat receipts
  pub counted : (parts ≡ 0) ⊎ (amount ≡ length receipts)
