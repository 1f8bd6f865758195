-- What the stages say of the receipts.
use Rattle.std.proofs.Common.{◌≡◌, ℕ, ◌+◌, ◌-◌, ◌≤◌, ◌==◌, Bool, true, false, List, [], ◌∷◌, refl, subst, arith}
use Rattle.std.specs.Prelude.{if◌then◌else◌}
use Rattle.std.proofs.lemmas.Bool.Decides.{nat_tests}
use Rattle.journal.specs.EntryCodes.{coded_returned}
use Rattle.journal.specs.declared.records.Said.{Said}
use Rattle.journal.specs.declared.records.Said.TheVariants.{Claim, Return, GiveBack}
use Rattle.slices.specs.Parts.{PieceValue}
use Rattle.slices.specs.Same.{same, same_exact}
use Rattle.journal.specs.declared.records.Refusal.{Refusal}
use Rattle.journal.specs.declared.records.Refusal.TheVariants.{Closed, ClaimsSpent}
use Rattle.journal.specs.declared.records.Returned.{Returned}
use Rattle.journal.specs.declared.records.Reply.{Reply}
use Rattle.journal.specs.declared.records.Reply.TheVariants.{Piece, Nothing, Refused}
use Rattle.journal.specs.Lines.{Line, shown}
use Rattle.sessions.specs.declared.passes.Counts.{Counts}
use Rattle.workers.specs.Deeds.{Deed}
use Rattle.workers.specs.declared.working.Form.{Form}
use Rattle.workers.specs.declared.working.Form.TheVariants.{UntilIdle}
use Rattle.workers.specs.Trace.{Stage, Free, Holds, Gave, Ended, Wrong, claim_refused, claimed, returned, after, stage_after, EndsAt, is_give_back, returns, IsWorkUnder}
use Rattle.workers.specs.Words.{IsFor, FollowedBy, EachFollowed, BackIsLast, EndsClaims, IsLast, EndsIn}

no_wrong : (D : Deed → Type 0) (form : Form) (lost refused : ℕ) (lines : List Line) → EndsAt D lost refused (stage_after form Wrong lines) → ⊥
no_wrong D form lost refused [] h = h
no_wrong D form lost refused (x ∷ xs) h = no_wrong D form lost refused xs h

no_more : (D : Deed → Type 0) (form : Form) (lost refused : ℕ) (piece : PieceValue) (lines : List Line) → EndsAt D lost refused (stage_after form (Gave piece) lines) → lines ≡ []
no_more D form lost refused piece [] h = refl
no_more D form lost refused piece (x ∷ xs) h = absurd (no_wrong D form lost refused xs h)

abbrev Fine : (Deed → Type 0) → Form → ℕ → ℕ → Stage → List Line → Type 0
Fine D form lost refused stage lines = EndsAt D lost refused (stage_after form stage lines)

-- a test that leads anywhere but to Wrong is true
passed : (D : Deed → Type 0) (form : Form) (lost refused : ℕ) (lines : List Line) (stage : Stage) (b : Bool) → Fine D form lost refused (if b then stage else Wrong) lines → (b ≡ true) × Fine D form lost refused stage lines
passed D form lost refused lines stage true h = (refl, h)
passed D form lost refused lines stage false h = absurd (no_wrong D form lost refused lines h)

number : (a b : ℕ) → (a == b) ≡ true → a ≡ b
number a b h = grind (arith, nat_tests)

is_for : (D : Deed → Type 0) (form : Form) (piece : PieceValue) (lost refused : ℕ) (said : Said) (reply : Reply) (lines : List Line) → Fine D form lost refused (after form (Holds piece) said reply) lines → IsFor piece said
is_for D form piece lost refused (Return r) reply lines h = (same_exact coded_returned r (shown piece)).0 (passed D form lost refused lines (returned reply) (same coded_returned r (shown piece)) h).0
is_for D form piece lost refused (GiveBack n) reply lines h = number _ _ (passed D form lost refused lines (Gave piece) (n == piece.claim) h).0
is_for D form piece lost refused said reply lines h = absurd (no_wrong D form lost refused lines h)

followed_by : (D : Deed → Type 0) (form : Form) (piece : PieceValue) (lost refused : ℕ) (lines : List Line) → Fine D form lost refused (Holds piece) lines → FollowedBy refused piece lines
followed_by D form piece lost refused [] h = (let n : refused ≡ lost + 1 = h.1 in omega (arith, n))
followed_by D form piece lost refused (x ∷ xs) h = is_for D form piece lost refused x.said x.reply xs h

given_then : (D : Deed → Type 0) (form : Form) (stage : Stage) (piece : PieceValue) (lost refused : ℕ) (lines : List Line) → Fine D form lost refused (after form stage Claim (Piece piece)) lines → FollowedBy refused piece lines
given_then D form Free piece lost refused lines h = followed_by D form piece lost refused lines h
given_then D form stage piece lost refused lines h = absurd (no_wrong D form lost refused lines h)

followed : (D : Deed → Type 0) (form : Form) (stage : Stage) (lost refused : ℕ) (lines : List Line) → Fine D form lost refused stage lines → EachFollowed refused lines
followed D form stage lost refused [] h = tt
followed D form stage lost refused (x ∷ xs) h = (
  λ piece said reply. given_then D form stage piece lost refused xs (subst (λ (r : Reply). Fine D form lost refused (after form stage Claim r) xs) reply (subst (λ (s : Said). Fine D form lost refused (after form stage s x.reply) xs) said h)),
  followed D form (after form stage x.said x.reply) lost refused xs h,
)

back_then : (D : Deed → Type 0) (form : Form) (stage : Stage) (lost refused : ℕ) (said : Said) (reply : Reply) (lines : List Line) → Fine D form lost refused (after form stage said reply) lines → is_give_back said ≡ true → lines ≡ []
back_then D form (Holds piece) lost refused (GiveBack n) reply lines h e = no_more D form lost refused piece lines (passed D form lost refused lines (Gave piece) (n == piece.claim) h).1
back_then D form stage lost refused (GiveBack n) reply lines h e = absurd (no_wrong D form lost refused lines h)
back_then D form stage lost refused said reply lines h e = absurd (let no : ⊥ = cc in no)

back : (D : Deed → Type 0) (form : Form) (stage : Stage) (lost refused : ℕ) (lines : List Line) → Fine D form lost refused stage lines → BackIsLast lines
back D form stage lost refused [] h = tt
back D form stage lost refused (x ∷ xs) h = (back_then D form stage lost refused x.said x.reply xs h, back D form (after form stage x.said x.reply) lost refused xs h)

pub law_followed : (D : Deed → Type 0) (form : Form) (counts : Counts) (added : List Line) → IsWorkUnder D form Free counts added → EachFollowed counts.refused added
law_followed D form counts added work = followed D form Free (counts.evaluated - returns added) counts.refused added work.ended

pub law_back : (D : Deed → Type 0) (form : Form) (counts : Counts) (added : List Line) → IsWorkUnder D form Free counts added → BackIsLast added
law_back D form counts added work = back D form Free (counts.evaluated - returns added) counts.refused added work.ended

-- the worker has ended, or has given back what it couldn't evaluate
abbrev AtEnd : Stage → Type 0
AtEnd Ended = Unit {0}
AtEnd (Gave piece) = Unit {0}
AtEnd stage = ⊥

-- with no call refused a worker stands at its end only so
at_end : (D : Deed → Type 0) (lost refused : ℕ) (stage : Stage) → EndsAt D lost refused stage → refused ≡ 0 → AtEnd stage × (lost ≡ 0)
at_end D lost refused Free h e = absurd (let a : refused ≡ 1 = h.1 in let no : ⊥ = omega (arith, a, e) in no)
at_end D lost refused (Holds piece) h e = absurd (let a : refused ≡ lost + 1 = h.1 in let no : ⊥ = omega (arith, a, e) in no)
at_end D lost refused (Gave piece) h e = (tt, (let a : refused ≡ lost = h.1 in omega (arith, a, e)))
at_end D lost refused Ended h e = (tt, h.0)
at_end D lost refused Wrong h e = absurd h

-- a stage that a call leads from to such an end
ends_refused : (refusal : Refusal) → AtEnd (claim_refused refusal) → EndsClaims refusal
ends_refused Closed e = tt
ends_refused ClaimsSpent e = tt
ends_refused refusal e = absurd e

ends_claim : (form : Form) (reply : Reply) → AtEnd (claimed form reply) → IsLast form Claim reply
ends_claim form (Refused refusal) e = ends_refused refusal e
ends_claim UntilIdle Nothing e = tt
ends_claim form reply e = absurd e

ends_returned : (form : Form) (r : Returned) (reply : Reply) → AtEnd (returned reply) → IsLast form (Return r) reply
ends_returned form r (Refused Closed) e = tt
ends_returned form r reply e = absurd e

ends_return : (form : Form) (b : Bool) (r : Returned) (reply : Reply) → AtEnd (if b then returned reply else Wrong) → IsLast form (Return r) reply
ends_return form false r reply e = absurd e
ends_return form true r reply e = ends_returned form r reply e

ends_call : (form : Form) (stage : Stage) (said : Said) (reply : Reply) → AtEnd (after form stage said reply) → IsLast form said reply
ends_call form Free Claim reply e = ends_claim form reply e
ends_call form (Holds piece) (Return r) reply e = ends_return form (same coded_returned r (shown piece)) r reply e
ends_call form stage (GiveBack n) reply e = tt
ends_call form stage said reply e = absurd e

ends_in : (form : Form) (stage : Stage) (line : Line) (lines : List Line) → AtEnd (stage_after form stage (line ∷ lines)) → EndsIn form (line ∷ lines)
ends_in form stage line [] e = ends_call form stage line.said line.reply e
ends_in form stage line (next ∷ lines) e = ends_in form (after form stage line.said line.reply) next lines e

ends_some : (form : Form) (lines : List Line) → AtEnd (stage_after form Free lines) → EndsIn form lines
ends_some form [] e = absurd e
ends_some form (x ∷ xs) e = ends_in form Free x xs e

pub law_none : (D : Deed → Type 0) (form : Form) (counts : Counts) (added : List Line) → IsWorkUnder D form Free counts added → counts.refused ≡ 0 → EndsIn form added × (counts.evaluated ≡ returns added)
law_none D form counts added work none =
    let end = at_end D (counts.evaluated - returns added) counts.refused (stage_after form Free added) work.ended none in
    let least : returns added ≤ counts.evaluated = work.least in
    let lost : counts.evaluated - returns added ≡ 0 = end.1 in
    (ends_some form added end.0, omega (arith, least, lost))
