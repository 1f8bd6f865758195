use Rattle.std.proofs.Common.{inl, inr, sym, ap, subst, arith, ◌∙◌, Ok, Err}
use Rattle.std.proofs.KnownBytes.{Keeps-refl}
use Rattle.std.proofs.lemmas.Bool.{false≢true}
use Rattle.scripts.specs.Lines.{ahead, nothing_read}
use Rattle.scripts.specs.Scripts.{no_line, next_line, no_head, long_head}
use Rattle.scripts.specs.Spelled.{IsSkipped}
use Rattle.scripts.specs.declared.reading_fault.ScriptFault.TheVariants as faults
use Rattle.scripts.proofs.Counted.{counted, grows, joined, longer_still, told_on}
use Rattle.scripts.proofs.Taken.{lost_both, lost_none}
use Rattle.scripts.proofs.Texts.{cut_text}
use Rattle.scripts.proofs.script.Script.next.Goals as goal

pub returns-in_err-next-clause-line : goal.returns-in_err-next-clause-line
returns-in_err-next-clause-line g c n e =
    let p = c.next.ensures.line n (c.in_err-next.was ∙ ap Err (told_on c.from_residual.result c.in_err-next.field-0.0 (faults.BadLine n) c.from_residual.ensures.1 e)) in
    long_head c.loop-self.invariant.skipped c.loop-self.invariant.lines p.1 p.2 p.0

pub returns-in_err-instruction-clause-line : goal.returns-in_err-instruction-clause-line
returns-in_err-instruction-clause-line g c n e =
    let is = c.in_ok-next.was ∙ ap Ok c.if-branch.true in
    let spelled : ¬ IsSkipped c.next.new.self.line.items = λ skipped. false≢true (sym c.if-not-is_skipped.true ∙ c.is_skipped.ensures.1 (subst IsSkipped (sym c.line.ensures) skipped)) in
    elim (c.instruction.ensures.bad n (c.in_err-instruction.was ∙ ap Err (told_on c.from_residual-in_err-instruction.result c.in_err-instruction.field-0.0 (faults.BadLine n) c.from_residual-in_err-instruction.ensures.1 e))) [
      | inl p ↦ no_head c.loop-self.invariant.skipped c.loop-self.invariant.lines (c.next.ensures.room is) (c.next.ensures.next is) spelled p.1 (p.0 ∙ c.next.ensures.count is)
      | inr q ↦ cut_text _ _ _ _ _ c.next.new.self.count n _ c.loop-self.invariant.skipped c.loop-self.invariant.lines (c.next.ensures.room is) (c.next.ensures.next is) q.0 (c.next.ensures.count is) q.1
    ]

pub returns-in_err-instruction-clause-read : goal.returns-in_err-instruction-clause-read
returns-in_err-instruction-clause-read g c e =
    let is = c.in_ok-next.was ∙ ap Ok c.if-branch.true in
    let lines = counted _ _ _ _ _ _ _ c.loop-self.invariant.lines (c.next.ensures.room is) (c.next.ensures.next is) (c.next.ensures.count is) in
    longer_still _ _ _ _ lines (c.instruction.ensures.read (c.in_err-instruction.was ∙ ap Err (told_on c.from_residual-in_err-instruction.result c.in_err-instruction.field-0.0 faults.Read c.from_residual-in_err-instruction.ensures.1 e)))

pub returns-then-not-is_skipped-clause-next : goal.returns-then-not-is_skipped-clause-next
returns-then-not-is_skipped-clause-next g c = record {
  start = ahead c.loop-self.self.lines.block (g.R.Source.left c.loop-self.reader);
  behind = ahead c.next.new.self.block (g.R.Source.left c.next.new.reader);
  line = c.next.new.self.line.items;
  skipped = c.loop-self.invariant.skipped;
  first = c.next.ensures.next (c.in_ok-next.was ∙ ap Ok c.if-branch.true);
  begins = c.in_ok-instruction.ensures.begins;
  followed = c.in_ok-instruction.ensures.followed;
}

pub returns-then-not-is_skipped-clause-more : goal.returns-then-not-is_skipped-clause-more
returns-then-not-is_skipped-clause-more g c =
    let is = c.in_ok-next.was ∙ ap Ok c.if-branch.true in
    let before = grows _ _ _ _ c.loop-self.invariant.lines in
    let behind = grows _ _ _ _ c.in_ok-instruction.ensures.lines in
    (omega (arith, before, c.next.ensures.room is), omega (arith, before, behind, c.next.ensures.count is))

pub returns-then-not-is_skipped-clause-lines : goal.returns-then-not-is_skipped-clause-lines
returns-then-not-is_skipped-clause-lines g c =
    let is = c.in_ok-next.was ∙ ap Ok c.if-branch.true in
    let lines = counted _ _ _ _ _ _ _ c.loop-self.invariant.lines (c.next.ensures.room is) (c.next.ensures.next is) (c.next.ensures.count is) in
    joined _ _ _ _ _ _ lines c.in_ok-instruction.ensures.lines

pub returns-in_err-next-clause-lost : goal.returns-in_err-next-clause-lost
returns-in_err-next-clause-lost g c = lost_both _ _ _ c.loop-self.invariant.lost c.next.ensures.lost

pub returns-in_err-next-clause-counted : goal.returns-in_err-next-clause-counted
returns-in_err-next-clause-counted g c = let before = c.loop-self.invariant.counted in let more = c.next.ensures.counted.0 in omega (arith, before, more)

pub returns-in_err-instruction-clause-lost : goal.returns-in_err-instruction-clause-lost
returns-in_err-instruction-clause-lost g c = lost_both _ _ _ c.loop-self.invariant.lost (lost_both _ _ _ c.next.ensures.lost c.instruction.ensures.lost)

pub returns-in_err-instruction-clause-counted : goal.returns-in_err-instruction-clause-counted
returns-in_err-instruction-clause-counted g c = let before = c.loop-self.invariant.counted in let more = c.next.ensures.counted.0 in let last = c.instruction.ensures.counted in omega (arith, before, more, last)

pub returns-then-not-is_skipped-clause-lost : goal.returns-then-not-is_skipped-clause-lost
returns-then-not-is_skipped-clause-lost g c = lost_both _ _ _ c.loop-self.invariant.lost (lost_both _ _ _ c.next.ensures.lost c.instruction.ensures.lost)

pub returns-then-not-is_skipped-clause-counted : goal.returns-then-not-is_skipped-clause-counted
returns-then-not-is_skipped-clause-counted g c = let before = c.loop-self.invariant.counted in let more = c.next.ensures.counted.0 in let last = c.instruction.ensures.counted in omega (arith, before, more, last)

pub returns-clause-lost : goal.returns-clause-lost
returns-clause-lost g c = lost_both _ _ _ c.loop-self.invariant.lost c.next.ensures.lost

pub returns-clause-counted : goal.returns-clause-counted
returns-clause-counted g c = let before = c.loop-self.invariant.counted in let more = c.next.ensures.counted.0 in omega (arith, before, more)

pub loop-self-init : goal.loop-self-init
loop-self-init g c = record { skipped = no_line; lines = nothing_read; lost = lost_none _ _ (Keeps-refl _); counted = omega arith }

pub loop-self-preserved : goal.loop-self-preserved
loop-self-preserved g c =
    let is = c.in_ok-next.was ∙ ap Ok c.if-branch.true in
    let next = c.next.ensures.next is in
    record {
      skipped = next_line c.loop-self.invariant.skipped next (subst IsSkipped c.line.ensures (c.is_skipped.ensures.0 c.if-not-is_skipped.false));
      lines = counted _ _ _ _ _ _ _ c.loop-self.invariant.lines (c.next.ensures.room is) next (c.next.ensures.count is);
      lost = lost_both _ _ _ c.loop-self.invariant.lost c.next.ensures.lost;
      counted = (let before = c.loop-self.invariant.counted in let more = c.next.ensures.counted.0 in omega (arith, before, more));
    }
