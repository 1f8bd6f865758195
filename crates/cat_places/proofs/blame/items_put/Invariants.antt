use Rattle.std.proofs.Common.{◌≡◌, ◌++◌, map, drop}
use Rattle.cat_tree.specs.Tree.{clause_of}
use Rattle.cat_places.specs.Blame.{items_put}
use Rattle.cat_places.proofs.blame.items_put.Given as goal

abbrev pub invariant-loop-visit : goal.invariant-loop-visit
invariant-loop-visit l = map clause_of l.items.items ++ items_put l.files (drop l.visit-index l.visits) ≡ items_put l.files l.visits
