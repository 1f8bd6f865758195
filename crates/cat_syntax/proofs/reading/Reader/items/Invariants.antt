use Rattle.std.proofs.Common.{◌≡◌, map, length}
use Rattle.descent.specs.Reading.{repeated}
use Rattle.cat_tree.specs.Tree.{clause_of}
use Rattle.cat_syntax.specs.Reading.{push_item, item_at, items_at, unless_end, cut}
use Rattle.cat_syntax.proofs.reading.Reader.items.Given as goal

-- the items so far, read on, are what is read
abbrev pub invariant-loop-self : goal.invariant-loop-self
invariant-loop-self l = repeated cut unless_end (push_item (λ _. item_at)) (map clause_of l.items.items) l.self.rest.now ≡ items_at l.fn.self.rest.now

abbrev pub decreases-loop-self : goal.decreases-loop-self
decreases-loop-self l = length l.self.rest.now
