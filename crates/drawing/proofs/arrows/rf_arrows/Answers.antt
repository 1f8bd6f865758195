use Rattle.events.specs.Named.{read_names}
use Rattle.drawing.proofs.arrows.rf_arrows.Goals as goal

pub returns : goal.returns
unfolding read_names
returns c = rw (c.rf.ensures, c.graph-2.ensures, c.deref.ensures.value, c.in_ok-reads.ensures, c.graph.ensures, c.events.ensures) at c.zipped.ensures
