use Rattle.program.proofs.Answered.{of_texts}
use Rattle.program.proofs.task.evaluate_one.Goals as goal

pub returns-then-is_refusal : goal.returns-then-is_refusal
returns-then-is_refusal g c =
    of_texts (g.R.Source.left c.args.reader.now) (g.W.Sink.held c.args.writer.now) (g.W.Sink.held c.one.new.writer) (g.W.Sink.held c.refuse.new.writer) c.in-Err.fault (g.W.Sink.has_failed c.refuse.new.writer)
    c.refuse.result (c.is_refusal.ensures.0 c.if-is_refusal.true) c.in-Err.ensures.nothing c.in-Err.ensures.refusal c.refuse.ensures
