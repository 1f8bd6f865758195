use Rattle.std.proofs.Common.{◌++◌, ◌-◌, [], length, take, sym, refl, ap, subst, ◌∙◌, Ok, Err, arith}
use Rattle.std.proofs.KnownBytes.{Keeps-refl}
use Rattle.std.proofs.lemmas.Bool.{false≢true}
use Rattle.scripts.specs.Lines.{ahead, IsNextLine, nothing_read}
use Rattle.scripts.specs.Scripts.{no_text, long_line, open_text}
use Rattle.scripts.specs.declared.reading_fault.ScriptFault.TheVariants as faults
use Rattle.scripts.proofs.Counted.{counted, ok_is_no_err, same_number, told_on}
use Rattle.scripts.proofs.Taken.{ended, lost_both, lost_none}
use Rattle.scripts.proofs.Texts.{gathered}
use Rattle.scripts.proofs.script.Script.text.Goals as goal

pub returns-then-is_last-clause-lines : goal.returns-then-is_last-clause-lines
returns-then-is_last-clause-lines g c =
    let is = c.in_ok-next.was ∙ ap Ok c.if-branch.true in
    counted _ _ _ _ _ _ _ c.loop-bytes.invariant.lines (c.next.ensures.room is) (c.next.ensures.next is) (c.next.ensures.count is)

pub returns-then-is_last-clause-text : goal.returns-then-is_last-clause-text
returns-then-is_last-clause-text g c =
    let text = c.loop-bytes.invariant.text in
    let start = ahead c.loop-bytes.self.lines.block (g.R.Source.left c.loop-bytes.reader) in
    let behind = ahead c.next.new.self.block (g.R.Source.left c.next.new.reader) in
    record {
      end = start;
      whole = text.whole;
      lines = text.lines;
      closed = subst (IsNextLine start behind) (sym c.line.ensures ∙ c.is_last.ensures.0 c.if-is_last.true) (c.next.ensures.next (c.in_ok-next.was ∙ ap Ok c.if-branch.true));
      kept = c.in_ok-new.ensures ∙ text.kept;
    }

pub returns-then-is_last-clause-read : goal.returns-then-is_last-clause-read
returns-then-is_last-clause-read g c e = ok_is_no_err _ _ e

pub returns-in_err-next-clause-line : goal.returns-in_err-next-clause-line
returns-in_err-next-clause-line g c n e =
    let p = c.next.ensures.line n (c.in_err-next.was ∙ ap Err (told_on c.from_residual.result c.in_err-next.field-0.0 (faults.BadLine n) c.from_residual.ensures.1 e)) in
    long_line c.loop-bytes.invariant.text.lines c.loop-bytes.invariant.lines p.1 p.2 p.0

pub returns-clause-line : goal.returns-clause-line
returns-clause-line g c n e =
    let is = c.in_ok-next.was ∙ ap Ok c.if-branch.false in
    let number = same_number (Err (faults.BadLine c.count.result)) c.count.result n refl e in
    open_text c.loop-bytes.invariant.text.lines c.loop-bytes.invariant.lines
    (ended _ c.next.new.self.block (g.R.Source.left c.next.new.reader) (c.next.ensures.kept is) (c.next.ensures.none is) (c.next.ensures.end is))
    (number ∙ c.count.ensures ∙ c.next.ensures.still is)

pub returns-in_err-next-clause-lost : goal.returns-in_err-next-clause-lost
returns-in_err-next-clause-lost g c = lost_both _ _ _ c.loop-bytes.invariant.lost c.next.ensures.lost

pub returns-in_err-next-clause-counted : goal.returns-in_err-next-clause-counted
returns-in_err-next-clause-counted g c = let before = c.loop-bytes.invariant.counted in let more = c.next.ensures.counted.0 in omega (arith, before, more)

pub returns-in_err-new-clause-lost : goal.returns-in_err-new-clause-lost
returns-in_err-new-clause-lost g c = lost_both _ _ _ c.loop-bytes.invariant.lost c.next.ensures.lost

pub returns-in_err-new-clause-counted : goal.returns-in_err-new-clause-counted
returns-in_err-new-clause-counted g c = let before = c.loop-bytes.invariant.counted in let more = c.next.ensures.counted.0 in omega (arith, before, more)

pub returns-then-is_last-clause-lost : goal.returns-then-is_last-clause-lost
returns-then-is_last-clause-lost g c = lost_both _ _ _ c.loop-bytes.invariant.lost c.next.ensures.lost

pub returns-then-is_last-clause-counted : goal.returns-then-is_last-clause-counted
returns-then-is_last-clause-counted g c = let before = c.loop-bytes.invariant.counted in let more = c.next.ensures.counted.0 in omega (arith, before, more)

pub returns-in_err-add_front-clause-lost : goal.returns-in_err-add_front-clause-lost
returns-in_err-add_front-clause-lost g c = lost_both _ _ _ c.loop-bytes.invariant.lost c.next.ensures.lost

pub returns-in_err-add_front-clause-counted : goal.returns-in_err-add_front-clause-counted
returns-in_err-add_front-clause-counted g c = let before = c.loop-bytes.invariant.counted in let more = c.next.ensures.counted.0 in omega (arith, before, more)

pub returns-in_err-add_front-2-clause-lost : goal.returns-in_err-add_front-2-clause-lost
returns-in_err-add_front-2-clause-lost g c = lost_both _ _ _ c.loop-bytes.invariant.lost c.next.ensures.lost

pub returns-in_err-add_front-2-clause-counted : goal.returns-in_err-add_front-2-clause-counted
returns-in_err-add_front-2-clause-counted g c = let before = c.loop-bytes.invariant.counted in let more = c.next.ensures.counted.0 in omega (arith, before, more)

pub returns-clause-lost : goal.returns-clause-lost
returns-clause-lost g c = lost_both _ _ _ c.loop-bytes.invariant.lost c.next.ensures.lost

pub returns-clause-counted : goal.returns-clause-counted
returns-clause-counted g c = let before = c.loop-bytes.invariant.counted in let more = c.next.ensures.counted.0 in omega (arith, before, more)

pub loop-bytes-init : goal.loop-bytes-init
loop-bytes-init g c = record {
  text = record { whole = []; lines = no_text; kept = c.new-bytes.ensures.items };
  lines = nothing_read;
  lost = lost_none _ _ (Keeps-refl _);
  counted = omega arith;
}

pub loop-bytes-preserved : goal.loop-bytes-preserved
loop-bytes-preserved g c =
    let old = c.loop-bytes.bytes.items in
    let is = c.in_ok-next.was ∙ ap Ok c.if-branch.true in
    let next = c.next.ensures.next is in record {
      text = gathered _ _ _ c.next.new.self.line.items old c.add_front.new.text.items c.add_front-in-loop-bytes.new.text.items c.loop-bytes.invariant.text next
          (λ e. false≢true (sym c.if-is_last.false ∙ c.is_last.ensures.1 (c.line.ensures ∙ e)))
          (c.in_ok-add_front.ensures ∙ ap (λ line. old ++ take (65537 - length old) line) c.line-in-loop-bytes.ensures)
          c.in_ok-add_front-2.ensures;
      lines = counted _ _ _ _ _ _ _ c.loop-bytes.invariant.lines (c.next.ensures.room is) next (c.next.ensures.count is);
      lost = lost_both _ _ _ c.loop-bytes.invariant.lost c.next.ensures.lost;
      counted = (let before = c.loop-bytes.invariant.counted in let more = c.next.ensures.counted.0 in omega (arith, before, more));
    }
