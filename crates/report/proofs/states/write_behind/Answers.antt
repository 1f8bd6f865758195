use Rattle.report.specs.Texts.{state_line}
use Rattle.report.proofs.Pages.{all_written, part_held, part_behind}
use Rattle.report.proofs.states.write_behind.Goals as goal

pub returns-in_err-send-clause-part : goal.returns-in_err-send-clause-part
returns-in_err-send-clause-part g c =
    part_held (g.W.Sink.held c.args.writer.now) (g.W.Sink.held c.send.new.writer) c.from_residual.result c.args.page.now.items (state_line c.args.places.now c.args.values.now) c.in_err-send.ensures.part

pub returns-clause-held : goal.returns-clause-held
returns-clause-held g c =
    all_written (g.W.Sink.held c.args.writer.now) (g.W.Sink.held c.send.new.writer) (g.W.Sink.held c.write_state.new.writer) (g.W.Sink.has_failed c.write_state.new.writer) c.write_state.result c.args.page.now.items c.send.new.page.items (state_line c.args.places.now c.args.values.now) c.in_ok-send.ensures.sent c.write_state.ensures c.in_ok-send.ensures.none

pub returns-clause-part : goal.returns-clause-part
returns-clause-part g c =
    part_behind (g.W.Sink.held c.args.writer.now) (g.W.Sink.held c.send.new.writer) (g.W.Sink.held c.write_state.new.writer) (g.W.Sink.has_failed c.write_state.new.writer) c.write_state.result c.args.page.now.items (state_line c.args.places.now c.args.values.now) c.in_ok-send.ensures.sent c.write_state.ensures
