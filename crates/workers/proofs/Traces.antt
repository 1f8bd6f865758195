-- Traces that are put together.
use Rattle.std.proofs.Common.{◌≡◌, ℕ, zero, suc, Bool, true, false, ◌+◌, ◌-◌, ◌<◌, ◌≤◌, ◌&&◌, cond, List, [], ◌∷◌, ◌++◌, length, refl, sym, ap, ◌∙◌, subst, arith, append_assoc, length-append, Some}
use Rattle.std.specs.Prelude.{slice_get, option_and_then}
use Rattle.std.proofs.lemmas.List.Sums.{sum_by-append}
use Rattle.std.proofs.lemmas.Option.{slice_get-get_or}
use Rattle.std.proofs.Math.Seq.{get_or-append_seam}
use Rattle.journal.specs.declared.records.Said.{Said}
use Rattle.journal.specs.declared.records.Said.TheVariants.{Claim, Return, GiveBack}
use Rattle.journal.specs.EntryCodes.{coded_returned}
use Rattle.slices.specs.Parts.{PieceValue}
use Rattle.slices.specs.Same.{same, same_exact}
use Rattle.journal.specs.declared.records.Reply.{Reply}
use Rattle.journal.specs.declared.records.Reply.TheVariants.{Piece, Refused}
use Rattle.journal.specs.declared.records.Refusal.TheVariants.{Closed}
use Rattle.journal.specs.Lines.{Line, shown}
use Rattle.sessions.specs.declared.passes.Counts.{Counts}
use Rattle.sessions.specs.Views.{PassView}
use Rattle.workers.specs.declared.calls.Claimed.TheVariants.{Held}
use Rattle.workers.specs.declared.working.Form.{Form}
use Rattle.workers.specs.declared.working.Turn.{Turn}
use Rattle.workers.specs.declared.working.Turn.TheVariants.{Waited, Returned, Ended}
use Rattle.workers.specs.Deeds.{Deed, call}
use Rattle.workers.specs.Replies.{Replied, claimed_of, goes_on, piece_of, last_piece, is_done}
use Rattle.workers.specs.Trace.{Stage, Free, Holds, Gave, Ended as HasEnded, Wrong, after, stage_after, Excuses, EndsAt, is_return, returns, is_give_back, given_back, IsWorkUnder, WorkedUnder}
use Rattle.workers.specs.Turns.{GoesOn, Tells, IsTurn, Settles, SoFar}

returns-append : (xs ys : List Line) → returns (xs ++ ys) ≡ returns xs + returns ys
returns-append xs ys = sum_by-append (λ (line : Line). cond (is_return line.said) 1 0) xs ys

given_back-append : (xs ys : List Line) → given_back (xs ++ ys) ≡ given_back xs + given_back ys
given_back-append xs ys = sum_by-append (λ (line : Line). cond (is_give_back line.said && is_done line.reply) 1 0) xs ys

stage-append : (form : Form) (stage : Stage) (xs ys : List Line) → stage_after form stage (xs ++ ys) ≡ stage_after form (stage_after form stage xs) ys
stage-append form stage [] ys = refl
stage-append form stage (x ∷ xs) ys = stage-append form (after form stage x.said x.reply) xs ys

returns-claim : (line : Line) (xs : List Line) → line.said ≡ Claim → returns (line ∷ xs) ≡ returns xs
returns-claim line xs said =
    let one : returns (line ∷ []) ≡ 0 = ap (λ (s : Said). 0 + cond {A = ℕ} (is_return s) 1 0) said in
    let e = returns-append (line ∷ []) xs in
    omega (arith, one, e)

given_back-claim : (line : Line) (xs : List Line) → line.said ≡ Claim → given_back (line ∷ xs) ≡ given_back xs
given_back-claim line xs said =
    let one : given_back (line ∷ []) ≡ 0 = ap (λ (s : Said). 0 + cond {A = ℕ} (is_give_back s && is_done line.reply) 1 0) said in
    let e = given_back-append (line ∷ []) xs in
    omega (arith, one, e)

last_piece-push : (xs : List Line) (x : Line) → last_piece (xs ++ x ∷ []) ≡ piece_of x.reply
last_piece-push xs x =
    let long : length (xs ++ x ∷ []) ≡ length xs + 1 = length-append xs (x ∷ []) in
    let at : length (xs ++ x ∷ []) - 1 ≡ length xs = omega (arith, long) in
    let within : length xs < length (xs ++ x ∷ []) = omega (arith, long) in
    let here : slice_get (xs ++ x ∷ []) (length xs) ≡ Some x = slice_get-get_or (xs ++ x ∷ []) (length xs) x within ∙ ap Some (get_or-append_seam xs x [] x) in
    ap (λ (i : ℕ). option_and_then (λ (line : Line). piece_of line.reply) (slice_get (xs ++ x ∷ []) i)) at ∙ ap (option_and_then (λ (line : Line). piece_of line.reply)) here

given_of : (reply : Reply) → Held ≡ claimed_of reply → (piece : PieceValue) × (reply ≡ Piece piece)
given_of (Piece piece) h = (piece, refl)
given_of reply h = absurd (let no : ⊥ = cc in no)

holds : (form : Form) (piece : PieceValue) (line : Line) (added : List Line) → line.said ≡ Claim → line.reply ≡ Piece piece → stage_after form Free (line ∷ added) ≡ stage_after form (Holds piece) added
holds form piece line added said reply =
    ap (λ (s : Said). stage_after form (after form Free s line.reply) added) said ∙ ap (λ (r : Reply). stage_after form (after form Free Claim r) added) reply

goes-claim : (form : Form) (piece : PieceValue) (line : Line) (added : List Line) (n : ℕ) → line.said ≡ Claim → line.reply ≡ Piece piece → GoesOn form (Holds piece) n added → GoesOn form Free n (line ∷ added)
goes-claim form piece line added n said reply goes =
    record {
      free = holds form piece line added said reply ∙ goes.free;
      some = (let h : n ≤ length added = goes.some in omega (arith, h));
      returned = returns-claim line added said ∙ goes.returned;
      none = given_back-claim line added said ∙ goes.none;
    }

work-claim : (D : Deed → Type 0) (form : Form) (piece : PieceValue) (line : Line) (added : List Line) (counts : Counts) → line.said ≡ Claim → line.reply ≡ Piece piece → IsWorkUnder D form (Holds piece) counts added → IsWorkUnder D form Free counts (line ∷ added)
work-claim D form piece line added counts said reply work =
    let r : returns (line ∷ added) ≡ returns added = returns-claim line added said in
    let least : returns added ≤ counts.evaluated = work.least in
    let most : counts.evaluated ≤ returns added + 1 = work.most in
    record {
      ended = subst (λ (n : ℕ). EndsAt D (counts.evaluated - n) counts.refused (stage_after form Free (line ∷ added))) (sym r) (subst (λ (s : Stage). EndsAt D (counts.evaluated - returns added) counts.refused s) (sym (holds form piece line added said reply)) work.ended);
      least = omega (arith, r, least);
      most = omega (arith, r, most);
      back = work.back ∙ sym (given_back-claim line added said);
    }

tells-claim : (D : Deed → Type 0) (form : Form) (piece : PieceValue) (line : Line) (added : List Line) (turn : Turn) → line.said ≡ Claim → line.reply ≡ Piece piece → Tells D form (Holds piece) turn added → Tells D form Free turn (line ∷ added)
tells-claim D form piece line added Waited said reply t = (goes-claim form piece line added 0 said reply t.0, omega arith)
tells-claim D form piece line added Returned said reply t = (goes-claim form piece line added 1 said reply t.0, omega arith)
tells-claim D form piece line added (Ended counts) said reply t = (work-claim D form piece line added counts said reply t.0, t.1)

same_piece : (a b : PieceValue) → Some a ≡ Some b → a ≡ b
same_piece a b e = cc

pub held-turn : (D : Deed → Type 0) (form : Form) (before mid now : PassView) (turn : Turn) → Replied before mid Claim (λ (reply : Reply). Held ≡ claimed_of reply) → Settles D mid now turn → IsTurn D form Free before now turn
held-turn D form before mid now turn claim rest =
    let line = claim.line in
    let given = given_of line.reply claim.reported in
    let same : given.0 ≡ rest.piece = same_piece _ _ (sym (ap (λ (p : PassView). last_piece p.receipts) claim.is ∙ last_piece-push before.receipts line ∙ ap piece_of given.1) ∙ rest.given) in
    let reply : line.reply ≡ Piece rest.piece = given.1 ∙ ap Piece same in
    let t = rest.turns form in
    record {
      added = line ∷ t.added;
      is = t.is ∙ ap (λ (p : PassView). record p { receipts = p.receipts ++ t.added }) claim.is ∙ ap (λ (xs : List Line). record before { receipts = xs }) (append_assoc before.receipts (line ∷ []) t.added);
      reported = tells-claim D form rest.piece line t.added turn claim.of reply t.reported;
    }

chained : (before mid now : PassView) (xs ys : List Line) → mid ≡ record before { receipts = before.receipts ++ xs } → now ≡ record mid { receipts = mid.receipts ++ ys } → now ≡ record before { receipts = before.receipts ++ (xs ++ ys) }
chained before mid now xs ys a b = b ∙ ap (λ (p : PassView). record p { receipts = p.receipts ++ ys }) a ∙ ap (λ (zs : List Line). record before { receipts = zs }) (append_assoc before.receipts xs ys)

goes-more : (form : Form) (n k : ℕ) (xs ys : List Line) → GoesOn form Free n xs → GoesOn form Free k ys → GoesOn form Free (n + k) (xs ++ ys)
goes-more form n k xs ys a b =
    let x : n ≤ length xs = a.some in
    let y : k ≤ length ys = b.some in
    let l : length (xs ++ ys) ≡ length xs + length ys = length-append xs ys in
    let r : returns xs ≡ n = a.returned in
    let s : returns ys ≡ k = b.returned in
    let g : given_back xs ≡ 0 = a.none in
    let h : given_back ys ≡ 0 = b.none in
    record {
      free = stage-append form Free xs ys ∙ ap (λ (t : Stage). stage_after form t ys) a.free ∙ b.free;
      some = omega (arith, x, y, l);
      returned = omega (arith, r, s, returns-append xs ys);
      none = omega (arith, g, h, given_back-append xs ys);
    }

-- each return has its receipt
pub so_far-few : (form : Form) (before now : PassView) (number : ℕ) → SoFar form before now number → number ≤ length now.receipts
so_far-few form before now number so_far =
    let some = so_far.goes.some in
    let long : length now.receipts ≡ length before.receipts + length so_far.added = ap (λ (p : PassView). length p.receipts) so_far.is ∙ length-append before.receipts so_far.added in
    omega (arith, some, long)

pub so_far-waited : (D : Deed → Type 0) (form : Form) (before mid now : PassView) (n : ℕ) → SoFar form before mid n → IsTurn D form Free mid now Waited → SoFar form before now n
so_far-waited D form before mid now n a t = record {
  added = a.added ++ t.added;
  is = chained before mid now a.added t.added a.is t.is;
  goes = subst (λ (k : ℕ). GoesOn form Free k (a.added ++ t.added)) (let e : n + 0 ≡ n = omega arith in e) (goes-more form n 0 a.added t.added a.goes t.reported.0);
}

pub so_far-returned : (D : Deed → Type 0) (form : Form) (before mid now : PassView) (n : ℕ) → SoFar form before mid n → IsTurn D form Free mid now Returned → SoFar form before now (n + 1)
so_far-returned D form before mid now n a t = record {
  added = a.added ++ t.added;
  is = chained before mid now a.added t.added a.is t.is;
  goes = goes-more form n 1 a.added t.added a.goes t.reported.0;
}

-- the work of a worker ends with this turn
pub so_far-ended : (D : Deed → Type 0) (form : Form) (before mid now : PassView) (n : ℕ) (last : Counts) → SoFar form before mid n → IsTurn D form Free mid now (Ended last) → WorkedUnder D form before (record now { counts = record last { evaluated = n + last.evaluated } })
so_far-ended D form before mid now n last a t =
    let xs = a.added in
    let ys = t.added in
    let w = t.reported.0 in
    let r : returns xs ≡ n = a.goes.returned in
    let g : given_back xs ≡ 0 = a.goes.none in
    let least : returns ys ≤ last.evaluated = w.least in
    let most : last.evaluated ≤ returns ys + 1 = w.most in
    let back : last.given_back ≡ given_back ys = w.back in
    let m : returns (xs ++ ys) ≡ returns xs + returns ys = returns-append xs ys in
    let k : given_back (xs ++ ys) ≡ given_back xs + given_back ys = given_back-append xs ys in
    let lost : last.evaluated - returns ys ≡ n + last.evaluated - returns (xs ++ ys) = omega (arith, r, m) in
    let at : stage_after form Free (xs ++ ys) ≡ stage_after form Free ys = stage-append form Free xs ys ∙ ap (λ (s : Stage). stage_after form s ys) a.goes.free in
    record {
      added = xs ++ ys;
      is = ap (λ (p : PassView). record p { counts = record last { evaluated = n + last.evaluated } }) (chained before mid now xs ys a.is t.is);
      work = record {
        ended = subst (λ (k : ℕ). EndsAt D k last.refused (stage_after form Free (xs ++ ys))) lost (subst (λ (s : Stage). EndsAt D (last.evaluated - returns ys) last.refused s) (sym at) w.ended);
        least = omega (arith, r, least, m);
        most = omega (arith, r, most, m);
        back = omega (arith, g, back, k);
      };
    }
