use Rattle.std.proofs.Common.{◌≡◌, drop, map}
use Rattle.cat_tree.specs.Tree.{defined_of}
use Rattle.witness.specs.Labels.{hidden_by}
use Rattle.witness.proofs.labelling.hide_all.Given as goal

abbrev pub invariant-loop-definition : goal.invariant-loop-definition
invariant-loop-definition l = hidden_by (map defined_of (drop l.definition-index l.definitions)) l.names.items ≡ hidden_by (map defined_of l.fn.definitions) l.fn.names.items
