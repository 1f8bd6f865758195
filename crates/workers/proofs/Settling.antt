-- What follows the receipt of a piece.
use Rattle.std.proofs.Common.{◌≡◌, ℕ, Bool, true, false, ◌+◌, ◌-◌, ◌≤◌, ◌&&◌, cond, List, [], ◌∷◌, ◌++◌, refl, sym, ap, ◌∙◌, subst, arith, Some}
use Rattle.std.specs.Prelude.{if◌then◌else◌}
use Rattle.journal.specs.EntryCodes.{coded_returned}
use Rattle.journal.specs.Lines.{Line, shown, returned as seen_of}
use Rattle.journal.specs.declared.records.Refusal.TheVariants.{Closed}
use Rattle.journal.specs.declared.records.Reply.{Reply}
use Rattle.journal.specs.declared.records.Reply.TheVariants.{Refused}
use Rattle.journal.specs.declared.records.Returned.{Returned as Shown}
use Rattle.journal.specs.declared.records.Said.{Said}
use Rattle.journal.specs.declared.records.Said.TheVariants.{Return}
use Rattle.sessions.specs.Views.{PassView}
use Rattle.sessions.specs.declared.passes.Counts.{Counts}
use Rattle.slices.specs.Parts.{PieceValue, PieceResultValue}
use Rattle.slices.specs.Same.{same, same_exact}
use Rattle.workers.specs.declared.working.Form.{Form}
use Rattle.workers.specs.declared.working.Turn.TheVariants.{Returned, Ended}
use Rattle.workers.specs.Deeds.{Deed}
use Rattle.workers.specs.Replies.{Replied, goes_on, last_piece, is_done}
use Rattle.workers.specs.Trace.{Stage, Free, Holds, Ended as HasEnded, Wrong, after, returned, stage_after, EndsAt, is_return, returns, is_give_back, given_back, IsWorkUnder}
use Rattle.workers.specs.Turns.{Settles}

one_return : (line : Line) (r : Shown) → line.said ≡ Return r → (returns (line ∷ []) ≡ 1) × (given_back (line ∷ []) ≡ 0)
one_return line r said = (ap (λ (s : Said). 0 + cond {A = ℕ} (is_return s) 1 0) said, ap (λ (s : Said). 0 + cond {A = ℕ} (is_give_back s && is_done line.reply) 1 0) said)

after_return : (form : Form) (piece : PieceValue) (line : Line) → line.said ≡ Return (shown piece) → after form (Holds piece) line.said line.reply ≡ returned line.reply
after_return form piece line said =
    ap (λ (s : Said). after form (Holds piece) s line.reply) said ∙ ap (λ (b : Bool). if b then returned line.reply else Wrong) ((same_exact coded_returned (shown piece) (shown piece)).1 refl)

stays : (reply : Reply) → true ≡ goes_on reply → returned reply ≡ Free
stays (Refused Closed) e = absurd (let no : ⊥ = cc in no)
stays reply e = refl

shut : (reply : Reply) → false ≡ goes_on reply → returned reply ≡ HasEnded
shut (Refused Closed) e = refl
shut reply e = absurd (let no : ⊥ = cc in no)

ends : (D : Deed → Type 0) (form : Form) (start : Stage) (counts : Counts) (added : List Line) (stage : Stage) (lost : ℕ) → stage_after form start added ≡ stage → counts.evaluated ≡ returns added + lost → lost ≤ 1
    → EndsAt D lost counts.refused stage → counts.given_back ≡ given_back added → IsWorkUnder D form start counts added
ends D form start counts added stage lost at evaluated few end back =
    let left : lost ≡ counts.evaluated - returns added = omega (arith, evaluated) in
    record {
      least = omega (arith, evaluated);
      most = omega (arith, evaluated, few);
      ended = subst (λ (k : ℕ). EndsAt D k counts.refused (stage_after form start added)) left (subst (λ (s : Stage). EndsAt D lost counts.refused s) (sym at) end);
      back = back;
    }

-- the return of what was found of the piece, with this answer
abbrev Answered : PassView → PassView → PieceValue → Bool → Type 0
Answered before now piece open_ = Replied before now (Return (shown piece)) (λ (reply : Reply). open_ ≡ goes_on reply)

answered : (piece : PieceValue) (before now : PassView) (found : PieceResultValue) (open_ wanted : Bool) → found.piece ≡ piece → open_ ≡ wanted → Replied before now (Return (seen_of found)) (λ (reply : Reply). open_ ≡ goes_on reply) → Answered before now piece wanted
answered piece before now found open_ wanted same test r =
    let A : PieceValue → Type 0 = λ p. Answered before now p open_ in
    let B : Bool → Type 0 = λ b. Answered before now piece b in
    subst B test (subst A same r)

goes_on_after : (D : Deed → Type 0) (piece : PieceValue) (before now : PassView) → last_piece before.receipts ≡ Some piece → Answered before now piece true → Settles D before now Returned
goes_on_after D piece before now given r = record {
  piece = piece;
  given = given;
  turns = λ form. record {
    added = r.line ∷ [];
    is = r.is;
    reported = (
      record {
        free = after_return form piece r.line r.of ∙ stays r.line.reply r.reported;
        some = omega arith;
        returned = (one_return r.line (shown piece) r.of).0;
        none = (one_return r.line (shown piece) r.of).1;
      },
      omega arith,
    );
  };
}

ends_after : (D : Deed → Type 0) (piece : PieceValue) (before now : PassView) → last_piece before.receipts ≡ Some piece → Answered before now piece false → Settles D before now (Ended (record { evaluated = 1; given_back = 0; refused = 0 }))
ends_after D piece before now given r =
    let one = one_return r.line (shown piece) r.of in
    let number : returns (r.line ∷ []) ≡ 1 = one.0 in
    record {
      piece = piece;
      given = given;
      turns = λ form. record {
        added = r.line ∷ [];
        is = r.is;
        reported = (
          ends D form (Holds piece) (record { evaluated = 1; given_back = 0; refused = 0 }) (r.line ∷ []) HasEnded 0 (after_return form piece r.line r.of ∙ shut r.line.reply r.reported) (omega (arith, number)) (omega arith) (refl, refl) (sym one.1),
          omega arith,
        );
      };
    }

-- the piece was returned, and the book stands open
pub returned_turn : (D : Deed → Type 0) (piece : PieceValue) (before now : PassView) (found : PieceResultValue) (open_ : Bool) → last_piece before.receipts ≡ Some piece → found.piece ≡ piece → open_ ≡ true
    → Replied before now (Return (seen_of found)) (λ (reply : Reply). open_ ≡ goes_on reply) → Settles D before now Returned
returned_turn D piece before now found open_ given same test r = goes_on_after D piece before now given (answered piece before now found open_ true same test r)

-- or is closed
pub closed_turn : (D : Deed → Type 0) (piece : PieceValue) (before now : PassView) (found : PieceResultValue) (open_ : Bool) → last_piece before.receipts ≡ Some piece → found.piece ≡ piece → open_ ≡ false
    → Replied before now (Return (seen_of found)) (λ (reply : Reply). open_ ≡ goes_on reply) → Settles D before now (Ended (record { evaluated = 1; given_back = 0; refused = 0 }))
closed_turn D piece before now found open_ given same test r = ends_after D piece before now given (answered piece before now found open_ false same test r)
