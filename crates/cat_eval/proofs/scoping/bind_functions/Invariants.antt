use Rattle.std.proofs.Common.{◌≡◌, ◌≤◌, length, map, take}
use Rattle.cat_tree.specs.Tree.{defined_of, functions_in}
use Rattle.cat_eval.specs.Lowered.{AreBound, Replace}
use Rattle.cat_eval.specs.Planned.{IsMore}
use Rattle.cat_eval.specs.Replacing.{Replacing, with_function_texts}
use Rattle.cat_eval.proofs.scoping.bind_functions.Given as goal

abbrev pub invariant-loop-definition : goal.invariant-loop-definition
invariant-loop-definition l = record {
  before : l.before ≤ length l.names.items;
  seen : take l.before l.names.items ≡ take l.before l.fn.names.items;
  more : IsMore l.fn.functions.items l.functions.items;
  bound : AreBound (length l.functions.items) l.names.items;
  replace : (B R : Replacing) → Replace l.fn.functions.items (take l.before l.fn.names.items) B → Replace l.fn.functions.items l.fn.names.items R → Replace l.functions.items l.names.items (with_function_texts B (functions_in (map defined_of (take l.definition-index l.definitions))) R);
}
