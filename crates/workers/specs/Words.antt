-- What the stages of a worker come to, in other words.
use Rattle.std.specs.Prelude.{◌≡◌, ℕ, ◌<◌, true, List, [], ◌∷◌}
use Rattle.journal.specs.declared.records.Said.{Said}
use Rattle.journal.specs.declared.records.Said.TheVariants.{Claim, Return, GiveBack}
use Rattle.slices.specs.Parts.{PieceValue}
use Rattle.journal.specs.declared.records.Refusal.{Refusal}
use Rattle.journal.specs.declared.records.Refusal.TheVariants.{Closed, ClaimsSpent}
use Rattle.journal.specs.declared.records.Reply.{Reply}
use Rattle.journal.specs.declared.records.Reply.TheVariants.{Piece, Nothing, Refused}
use Rattle.journal.specs.Lines.{Line, shown}
use Rattle.workers.specs.Trace.{is_give_back}
use Rattle.workers.specs.declared.working.Form.{Form}
use Rattle.workers.specs.declared.working.Form.TheVariants.{UntilIdle}

-- a return of this piece, or a give-back of its claim
abbrev pub IsFor : PieceValue → Said → Type 0
IsFor piece (Return r) = r ≡ shown piece
IsFor piece (GiveBack number) = number ≡ piece.claim
IsFor piece said = ⊥

abbrev pub FollowedBy : ℕ → PieceValue → List Line → Type 0
FollowedBy refused piece [] = 0 < refused
FollowedBy refused piece (line ∷ lines) = IsFor piece line.said

-- each claim that was given is followed by one return of its piece or one give-back, except that the last may lack it where a call was refused
abbrev pub EachFollowed : ℕ → List Line → Type 0
EachFollowed refused [] = Unit {0}
EachFollowed refused (line ∷ lines) = ((piece : PieceValue) → line.said ≡ Claim → line.reply ≡ Piece piece → FollowedBy refused piece lines) × EachFollowed refused lines

-- a give-back is the last
abbrev pub BackIsLast : List Line → Type 0
BackIsLast [] = Unit {0}
BackIsLast (line ∷ lines) = (is_give_back line.said ≡ true → lines ≡ []) × BackIsLast lines

-- the book is closed, or its claims are spent
abbrev pub EndsClaims : Refusal → Type 0
EndsClaims Closed = Unit {0}
EndsClaims ClaimsSpent = Unit {0}
EndsClaims refusal = ⊥

-- a claim answered closed or spent, or nothing where the worker ends there, a return answered closed, or a give-back
abbrev pub IsLast : Form → Said → Reply → Type 0
IsLast form Claim (Refused refusal) = EndsClaims refusal
IsLast UntilIdle Claim Nothing = Unit {0}
IsLast form (Return r) (Refused Closed) = Unit {0}
IsLast form (GiveBack number) reply = Unit {0}
IsLast form said reply = ⊥

-- there is a last receipt, and it is such a one
abbrev pub EndsIn : Form → List Line → Type 0
EndsIn form [] = ⊥
EndsIn form (line ∷ []) = IsLast form line.said line.reply
EndsIn form (line ∷ next ∷ lines) = EndsIn form (next ∷ lines)
