use Rattle.std.proofs.Common.{◌≡◌, ◌≤◌, ◌++◌, ℕ, List, length, map, take}
use Rattle.cat_tree.specs.Tree.{bound_of}
use Rattle.cat_eval.specs.Lowered.{AreBound, Replace}
use Rattle.cat_eval.specs.Planned.{run_from}
use Rattle.cat_eval.specs.Replacing.{Replacing, with_value_texts}
use Rattle.cat_eval.specs.declared.instruction.Function.{Function}
use Rattle.cat_eval.proofs.scoping.bind_group.Given as goal

abbrev pub invariant-loop-number : goal.invariant-loop-number
invariant-loop-number l = record {
  values : l.values.items ≡ l.fn.values.items ++ run_from l.from l.number;
  replace : (fs : List Function) (R : Replacing) → Replace fs l.fn.names.items R → Replace fs l.names.items (with_value_texts (length l.fn.values.items) (map bound_of (take l.number l.bindings)) R);
  bound : (n : ℕ) → AreBound n l.fn.names.items → AreBound n l.names.items;
  kept : (n : ℕ) → n ≤ length l.fn.names.items → (n ≤ length l.names.items) × (take n l.names.items ≡ take n l.fn.names.items);
}
