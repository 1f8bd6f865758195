use Rattle.std.proofs.Common.{◌≡◌, List, take}
use Rattle.cat_tree.specs.Tree.{File}
use Rattle.cat_places.specs.Places.{AreRead}
use Rattle.cat_places.proofs.model.read_all.Given as goal

abbrev pub invariant-loop-source : goal.invariant-loop-source
invariant-loop-source l = (fs : List File) → AreRead l.sources fs → take l.source-index fs ≡ l.files.items
