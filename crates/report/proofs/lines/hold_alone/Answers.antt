use Rattle.report.proofs.Pages.{all_written, held_anew, part_held, part_behind}
use Rattle.report.proofs.lines.hold_alone.Goals as goal

pub returns-in_err-send-clause-part : goal.returns-in_err-send-clause-part
returns-in_err-send-clause-part g c =
    part_held (g.W.Sink.held c.args.writer.now) (g.W.Sink.held c.send.new.writer) c.from_residual.result c.args.page.now.items c.args.bytes.now c.in_err-send.ensures.part

pub returns-in-Ok-clause-held : goal.returns-in-Ok-clause-held
returns-in-Ok-clause-held g c =
    held_anew (g.W.Sink.held c.args.writer.now) (g.W.Sink.held c.send.new.writer) c.args.page.now.items c.try_extend_from_slice.new.self.items c.args.bytes.now c.in_ok-send.ensures.sent (rw c.in_ok-send.ensures.none at c.in-Ok.ensures.ok)

pub returns-in-Err-clause-held : goal.returns-in-Err-clause-held
returns-in-Err-clause-held g c =
    all_written (g.W.Sink.held c.args.writer.now) (g.W.Sink.held c.send.new.writer) (g.W.Sink.held c.write_bytes.new.writer) (g.W.Sink.has_failed c.write_bytes.new.writer) c.write_bytes.result c.args.page.now.items c.try_extend_from_slice.new.self.items c.args.bytes.now c.in_ok-send.ensures.sent c.write_bytes.ensures (rw c.in-Err.ensures.err c.in_ok-send.ensures.none)

pub returns-in-Err-clause-part : goal.returns-in-Err-clause-part
returns-in-Err-clause-part g c =
    part_behind (g.W.Sink.held c.args.writer.now) (g.W.Sink.held c.send.new.writer) (g.W.Sink.held c.write_bytes.new.writer) (g.W.Sink.has_failed c.write_bytes.new.writer) c.write_bytes.result c.args.page.now.items c.args.bytes.now c.in_ok-send.ensures.sent c.write_bytes.ensures
