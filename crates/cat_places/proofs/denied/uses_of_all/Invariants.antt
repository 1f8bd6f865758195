use Rattle.std.proofs.Common.{◌≡◌, ◌++◌, All, length, map, drop}
use Rattle.wb_text.specs.Tokens.{IsWithin}
use Rattle.cat_tree.specs.Tree.{bound_of}
use Rattle.cat_places.specs.Denied.{uses_of_all}
use Rattle.cat_places.proofs.denied.uses_of_all.Given as goal

abbrev pub invariant-loop-binding : goal.invariant-loop-binding
invariant-loop-binding l = record {
  all : l.all.items ++ uses_of_all l.text l.own (map bound_of (drop l.binding-index l.bindings)) ≡ uses_of_all l.text l.own (map bound_of l.bindings);
  within : All (IsWithin (length l.text)) l.all.items;
}
