use Rattle.std.proofs.Common.{◌≡◌, ◌≤◌, ◌++◌, ◌+◌, ℕ, List, length, map, take}
use Rattle.cat_tree.specs.Tree.{defined_of, values_in}
use Rattle.cat_eval.specs.Lowered.{AreBound, Replace}
use Rattle.cat_eval.specs.Planned.{run_from}
use Rattle.cat_eval.specs.Replacing.{Replacing, with_value_texts}
use Rattle.cat_eval.specs.declared.instruction.Function.{Function}
use Rattle.cat_eval.proofs.scoping.bind_values.Given as goal

abbrev pub invariant-loop-definition : goal.invariant-loop-definition
invariant-loop-definition l = record {
  place : l.place ≡ l.from + length (values_in (map defined_of (take l.definition-index l.definitions)));
  values : l.values.items ≡ l.fn.values.items ++ run_from l.from (length (values_in (map defined_of (take l.definition-index l.definitions))));
  replace : (fs : List Function) (R : Replacing) → Replace fs l.fn.names.items R → Replace fs l.names.items (with_value_texts (length l.fn.values.items) (values_in (map defined_of (take l.definition-index l.definitions))) R);
  bound : (n : ℕ) → AreBound n l.fn.names.items → AreBound n l.names.items;
  kept : (n : ℕ) → n ≤ length l.fn.names.items → (n ≤ length l.names.items) × (take n l.names.items ≡ take n l.fn.names.items);
}
