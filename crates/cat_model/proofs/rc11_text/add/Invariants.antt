use Rattle.std.proofs.Common.{◌≡◌, ◌++◌, map, take}
use Rattle.cat_tree.specs.Tree.{clause_of}
use Rattle.cat_model.specs.Sketches.{line_of}
use Rattle.cat_model.proofs.rc11_text.add.Given as goal

abbrev pub invariant-loop-line : goal.invariant-loop-line
invariant-loop-line l = map clause_of l.items.items ≡ map clause_of l.fn.items.items ++ map line_of (take l.line-index l.lines)
