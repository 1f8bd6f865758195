use Rattle.std.proofs.Common.{sym, subst}
use Rattle.program.specs.Tasks.{Does}
use Rattle.program.proofs.task.do_task.Goals as goal

pub returns-in-Alone : goal.returns-in-Alone
returns-in-Alone g c =
    subst (λ task. Does task (g.R.Source.left c.args.reader.now) (g.W.Sink.held c.args.writer.now) (g.W.Sink.held c.evaluate_one.new.writer) (g.W.Sink.has_failed c.evaluate_one.new.writer) c.evaluate_one.result)
    (sym c.in-Alone.is) c.evaluate_one.ensures
