use Rattle.std.proofs.Common.{arith}
use Rattle.cat_tree.specs.Tree.{clause_of}
use Rattle.cat_syntax.proofs.Lists.{item_takes}
use Rattle.cat_syntax.proofs.reading.Reader.items.Goals as goal

pub loop-self-smaller : goal.loop-self-smaller
loop-self-smaller c = omega (arith, item_takes c.loop-self.self.rest.now c.item.new.self.rest.now (clause_of c.in_ok-item.item) c.in_ok-item.ensures)
