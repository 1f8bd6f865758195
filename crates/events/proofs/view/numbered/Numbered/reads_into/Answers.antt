use Rattle.std.proofs.Common.{◌∙◌, ap, arith, length}
use Rattle.events.specs.Named.{event_count, read_names}
use Rattle.events.proofs.Adding.{reads_on, reads_done}
use Rattle.events.proofs.view.numbered.Numbered.reads_into.Goals as goal

pub loop-read-preserved : goal.loop-read-preserved
loop-read-preserved c = (
  reads_on (event_count c.args.self.now) c.args.self.now c.args.sources.now c.loop-read.read c.loop-read.rel c.relate_read.new.rel c.loop-read.invariant.0 c.relate_read.ensures.rel,
  c.relate_read.ensures.turned,
)

pub returns-clause-rel : goal.returns-clause-rel
returns-clause-rel c =
    let e = c.self.invariant.reads ∙ ap read_names c.self.view_is in
    reads_done (event_count c.args.self.now) c.args.self.now c.args.sources.now c.loop-read.read c.loop-read.rel (omega (arith, ap length e, c.loop-read-test.false)) c.loop-read.invariant.0
