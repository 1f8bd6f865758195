use Rattle.report.proofs.Pages.{held_more}
use Rattle.report.proofs.lines.hold.Goals as goal

pub returns-in-Ok-clause-held : goal.returns-in-Ok-clause-held
returns-in-Ok-clause-held g c =
    held_more (g.W.Sink.held c.args.writer.now) c.args.page.now.items c.try_extend_from_slice.new.self.items c.args.bytes.now c.in-Ok.ensures.ok
