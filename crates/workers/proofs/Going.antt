-- Which replies leave the book open, and what a call adds.
use Rattle.std.proofs.Common.{◌≡◌, ◌≢◌, ◌-◌, ◌+◌, ◌<◌, ◌∙◌, true, ℕ, List, [], ◌∷◌, ◌++◌, Some, length, length-append, refl, sym, ap, subst, arith}
use Rattle.std.specs.Prelude.{slice_get}
use Rattle.std.proofs.lemmas.Option.{slice_get-get_or}
use Rattle.std.proofs.Math.Seq.{get_or-append_seam}
use Rattle.journal.specs.declared.records.Refusal.{Refusal}
use Rattle.journal.specs.declared.records.Refusal.TheVariants.{Closed}
use Rattle.journal.specs.declared.records.Reply.{Reply}
use Rattle.journal.specs.declared.records.Reply.TheVariants.{Refused}
use Rattle.journal.specs.declared.records.Said.{Said}
use Rattle.journal.specs.Lines.{Line, answers}
use Rattle.sessions.specs.Calls.{Adds}
use Rattle.sessions.specs.Views.{PassView}
use Rattle.workers.specs.Replies.{Replied, goes_on}

pub goes_on_unless : (refusal : Refusal) → refusal ≢ Closed → goes_on (Refused refusal) ≡ true
goes_on_unless Closed h = absurd (h refl)
goes_on_unless refusal h = refl

last_line : (xs : List Line) (x : Line) → slice_get (xs ++ x ∷ []) (length (xs ++ x ∷ []) - 1) ≡ Some x
last_line xs x =
    let long : length (xs ++ x ∷ []) ≡ length xs + 1 = length-append xs (x ∷ []) in
    let at : length (xs ++ x ∷ []) - 1 ≡ length xs = omega (arith, long) in
    let within : length xs < length (xs ++ x ∷ []) = omega (arith, long) in
    ap (λ (i : ℕ). slice_get (xs ++ x ∷ []) i) at ∙ (slice_get-get_or (xs ++ x ∷ []) (length xs) x within ∙ ap Some (get_or-append_seam xs x [] x))

last_is : (before after : PassView) (said : Said) (line : Line) (a : Adds before after said) → slice_get after.receipts (length after.receipts - 1) ≡ Some line → a.line ≡ line
last_is before after said line a h =
    let last : slice_get after.receipts (length after.receipts - 1) ≡ Some a.line = subst (λ (p : PassView). slice_get p.receipts (length p.receipts - 1) ≡ Some a.line) (sym a.is) (last_line before.receipts a.line) in
    let both : Some a.line ≡ Some line = sym last ∙ h in
    cc

-- a call whose last receipt is this line
pub replied : (before after : PassView) (said : Said) (tells : Reply → Type 0) (line : Line) → Adds before after said → slice_get after.receipts (length after.receipts - 1) ≡ Some line → answers line.said line.reply ≡ true → tells line.reply → Replied before after said tells
replied before after said tells line a h kind reported =
    let same : a.line ≡ line = last_is before after said line a h in
    let of : line.said ≡ said = subst (λ (l : Line). l.said ≡ said) same a.of_command in
    record {
      line = a.line;
      is = a.is;
      of = a.of_command;
      kind = subst (λ (l : Line). answers said l.reply ≡ true) (sym same) (subst (λ (s : Said). answers s line.reply ≡ true) of kind);
      reported = subst (λ (l : Line). tells l.reply) (sym same) reported;
    }
