use Rattle.std.proofs.Common.{◌∙◌, ◌<◌, ◌++◌, [], ◌∷◌, ap, inl, inr, sym, refl, subst, Err, arith}
use Rattle.std.proofs.KnownBytes.{Appends-nil, Keeps-refl}
use Rattle.scripts.specs.Lines.{ahead, AreLines, nothing_read}
use Rattle.scripts.specs.Scripts.{IsNextInstruction, IsSpent, no_instruction}
use Rattle.scripts.proofs.Counted.{joined, longer_still}
use Rattle.scripts.proofs.Taken.{lost_both, lost_none}
use Rattle.scripts.specs.Passes.{Have}
use Rattle.scripts.specs.Serving.{Call, IsRead, Tells, calls_text, entries_at, no_call}
use Rattle.scripts.proofs.Calls.{answered_more, have_more, none_among, same_entries}
use Rattle.scripts.proofs.Served.{instructed, read_failed, stopped, tells_ending, write_ending, written, written_partly}
use Rattle.scripts.proofs.run.answer_all.Goals as goal

pub loop-instruction-init : goal.loop-instruction-init
loop-instruction-init g c = record {
  reported = ([], no_call, c.requires.fresh, Appends-nil (g.W.Sink.held c.args.writer.now), no_instruction);
  lines = nothing_read;
  left = lost_none _ _ (Keeps-refl _);
  table = c.requires.table;
  desk = refl;
}

pub call-requires-clause-table : goal.call-requires-clause-table
call-requires-clause-table g c κs within = c.loop-instruction.invariant.table

pub loop-instruction-smaller : goal.loop-instruction-smaller
loop-instruction-smaller g c =
    let more : (c.loop-instruction.script.lines.count < 1000000) × (c.loop-instruction.script.lines.count < c.next.new.self.lines.count) = rw c.in-Ok-Some.field-0-is at c.in-Ok-Some.ensures.more in
    let few = more.0 in
    let rises = more.1 in
    omega (arith, few, rises)

pub loop-instruction-preserved : goal.loop-instruction-preserved
loop-instruction-preserved g c =
    let reported = c.loop-instruction.invariant.reported in
    let before = ahead c.loop-instruction.script.lines.block (g.R.Source.left c.loop-instruction.reader) in
    let after = ahead c.next.new.self.lines.block (g.R.Source.left c.next.new.reader) in
    let m = c.loop-instruction.script.lines.count in
    let k = c.next.new.self.lines.count in
    let next : IsNextInstruction before after c.in-Ok-Some.instruction = rw c.in-Ok-Some.field-0-is at c.in-Ok-Some.ensures.next in
    let lines : AreLines before m after k = rw c.in-Ok-Some.field-0-is at c.in-Ok-Some.ensures.lines in
    let a = c.in-Ok.ensures.answered in
    let call : Call = record { instruction = c.in-Ok-Some.instruction; answer = a.answer } in
    let passes = c.loop-instruction.seats.passes.items in
    let table = c.loop-instruction.invariant.table in
    let answered = answered_more c.args.seats.now.desk c.loop-instruction.seats.desk reported.0 call passes c.loop-instruction.invariant.desk reported.1 table reported.2 a.is in
    let have = have_more c.loop-instruction.seats.desk reported.0 call passes c.call.new.self.passes.items table a.become reported.2 in
    record {
      reported = (reported.0 ++ call ∷ [], answered, have, written _ _ _ reported.0 call reported.3 (c.in_ok-give_answer-in-Ok.ensures a.answer a.shows), instructed _ before after reported.0 call reported.4 next);
      lines = joined _ before _ _ after _ c.loop-instruction.invariant.lines lines;
      left = lost_both _ _ _ c.loop-instruction.invariant.left c.next.ensures.lost;
      table = c.call.ensures.table;
      desk = c.call.ensures.desk ∙ c.loop-instruction.invariant.desk;
    }

pub returns-in_err-give_answer-in-Ok-clause-left : goal.returns-in_err-give_answer-in-Ok-clause-left
returns-in_err-give_answer-in-Ok-clause-left g c = lost_both _ _ _ c.loop-instruction.invariant.left c.next.ensures.lost

pub returns-in_err-give_answer-in-Ok-clause-reported : goal.returns-in_err-give_answer-in-Ok-clause-reported
returns-in_err-give_answer-in-Ok-clause-reported g c =
    let reported = c.loop-instruction.invariant.reported in
    let before = ahead c.loop-instruction.script.lines.block (g.R.Source.left c.loop-instruction.reader) in
    let after = ahead c.next.new.self.lines.block (g.R.Source.left c.next.new.reader) in
    let m = c.loop-instruction.script.lines.count in
    let k = c.next.new.self.lines.count in
    let next : IsNextInstruction before after c.in-Ok-Some.instruction = rw c.in-Ok-Some.field-0-is at c.in-Ok-Some.ensures.next in
    let lines : AreLines before m after k = rw c.in-Ok-Some.field-0-is at c.in-Ok-Some.ensures.lines in
    let a = c.in-Ok.ensures.answered in
    let call : Call = record { instruction = c.in-Ok-Some.instruction; answer = a.answer } in
    let passes = c.loop-instruction.seats.passes.items in
    let table = c.loop-instruction.invariant.table in
    let answered = answered_more c.args.seats.now.desk c.loop-instruction.seats.desk reported.0 call passes c.loop-instruction.invariant.desk reported.1 table reported.2 a.is in
    let have = have_more c.loop-instruction.seats.desk reported.0 call passes c.call.new.self.passes.items table a.become reported.2 in
    let calls = reported.0 ++ call ∷ [] in
    let failed = write_ending _ c.from_residual.result c.from_residual.ensures.1 in
    let part = written_partly _ _ _ reported.0 call reported.3 (c.in_err-give_answer-in-Ok.ensures a.answer a.shows).0 in (
      calls,
      answered,
      have,
      subst (λ r. Tells (g.W.Sink.held c.args.writer.now) (g.W.Sink.held c.give_answer.new.writer) r (calls_text calls)) (sym failed) part,
      subst (λ r. IsRead (ahead c.args.script.now.lines.block (g.R.Source.left c.args.reader.now)) c.args.script.now.lines.count r calls) (sym failed) (record {
        end = after;
        count = k;
        instructions = instructed _ before after reported.0 call reported.4 next;
        lines = joined _ before _ _ after _ c.loop-instruction.invariant.lines lines;
        stops = tt;
      }),
    )

pub returns-in_err-give_answer-in-Ok-clause-desk : goal.returns-in_err-give_answer-in-Ok-clause-desk
returns-in_err-give_answer-in-Ok-clause-desk g c = c.call.ensures.desk ∙ c.loop-instruction.invariant.desk

pub returns-in-Err-call-clause-left : goal.returns-in-Err-call-clause-left
returns-in-Err-call-clause-left g c = lost_both _ _ _ c.loop-instruction.invariant.left c.next.ensures.lost

pub returns-in-Err-call-clause-reported : goal.returns-in-Err-call-clause-reported
returns-in-Err-call-clause-reported g c =
    let reported = c.loop-instruction.invariant.reported in
    let before = ahead c.loop-instruction.script.lines.block (g.R.Source.left c.loop-instruction.reader) in
    let after = ahead c.next.new.self.lines.block (g.R.Source.left c.next.new.reader) in
    let m = c.loop-instruction.script.lines.count in
    let k = c.next.new.self.lines.count in
    let next : IsNextInstruction before after c.in-Ok-Some.instruction = rw c.in-Ok-Some.field-0-is at c.in-Ok-Some.ensures.next in
    let lines : AreLines before m after k = rw c.in-Ok-Some.field-0-is at c.in-Ok-Some.ensures.lines in
    let passes = c.loop-instruction.seats.passes.items in
    let same = same_entries _ c.loop-instruction.seats.desk reported.0 passes reported.1 c.loop-instruction.invariant.table reported.2 in
    let unclaimed = c.in-Err-call.ensures.none in (
      reported.0,
      reported.1,
      subst (Have (λ seat. entries_at seat reported.0) 0) (sym c.in-Err-call.ensures.same) reported.2,
      reported.3,
      record {
        end = before;
        count = m;
        instructions = reported.4;
        lines = c.loop-instruction.invariant.lines;
        stops = inr (record {
          after = after;
          instruction = c.in-Ok-Some.instruction;
          seat = unclaimed.0;
          claim = unclaimed.1;
          next = next;
          lines = subst (AreLines before m after) (sym c.line_count.ensures) lines;
          returns = unclaimed.2;
          none = none_among unclaimed.1 _ _ same unclaimed.3;
        });
      },
    )

pub returns-in-Err-call-clause-desk : goal.returns-in-Err-call-clause-desk
returns-in-Err-call-clause-desk g c = c.call.ensures.desk ∙ c.loop-instruction.invariant.desk

pub returns-in-Ok-None-clause-left : goal.returns-in-Ok-None-clause-left
returns-in-Ok-None-clause-left g c = lost_both _ _ _ c.loop-instruction.invariant.left c.next.ensures.lost

pub returns-in-Ok-None-clause-reported : goal.returns-in-Ok-None-clause-reported
returns-in-Ok-None-clause-reported g c =
    let reported = c.loop-instruction.invariant.reported in
    let before = ahead c.loop-instruction.script.lines.block (g.R.Source.left c.loop-instruction.reader) in
    let after = ahead c.next.new.self.lines.block (g.R.Source.left c.next.new.reader) in
    let m = c.loop-instruction.script.lines.count in
    let spent : IsSpent before m after = rw c.in-Ok-None.field-0-is at c.in-Ok-None.ensures.spent in
    (reported.0, reported.1, reported.2, reported.3, record { end = before; count = m; instructions = reported.4; lines = c.loop-instruction.invariant.lines; stops = (after, spent) })

pub returns-in-Ok-None-clause-table : goal.returns-in-Ok-None-clause-table
returns-in-Ok-None-clause-table g c = c.loop-instruction.invariant.table

pub returns-in-Ok-None-clause-desk : goal.returns-in-Ok-None-clause-desk
returns-in-Ok-None-clause-desk g c = c.loop-instruction.invariant.desk

pub returns-in-Err-clause-left : goal.returns-in-Err-clause-left
returns-in-Err-clause-left g c = lost_both _ _ _ c.loop-instruction.invariant.left c.next.ensures.lost

pub returns-in-Err-clause-reported : goal.returns-in-Err-clause-reported
returns-in-Err-clause-reported g c =
    let reported = c.loop-instruction.invariant.reported in (
      reported.0,
      reported.1,
      reported.2,
      tells_ending _ _ c.in-Err.fault _ reported.3,
      stopped c.in-Err.fault reported.0 reported.4 c.loop-instruction.invariant.lines (λ n e. inl (c.next.ensures.line n (c.in-Err.is ∙ ap Err e))),
    )

pub returns-in-Err-clause-read : goal.returns-in-Err-clause-read
returns-in-Err-clause-read g c e =
    longer_still _ _ _ _ c.loop-instruction.invariant.lines (c.next.ensures.read (c.in-Err.is ∙ ap Err (read_failed c.in-Err.fault e)))

pub returns-in-Err-clause-table : goal.returns-in-Err-clause-table
returns-in-Err-clause-table g c = c.loop-instruction.invariant.table

pub returns-in-Err-clause-desk : goal.returns-in-Err-clause-desk
returns-in-Err-clause-desk g c = c.loop-instruction.invariant.desk
