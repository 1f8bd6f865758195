use Rattle.std.proofs.Common.{◌≡◌, ◌↔◌, List, length}
use Rattle.cat_model.specs.Classing.{AreFlat, Agree, AreTaken}
use Rattle.cat_model.specs.declared.sort.Sort.{Sort}
use Rattle.cat_model.proofs.schemes.join_arguments.Given as goal

abbrev pub invariant-loop-place : goal.invariant-loop-place
invariant-loop-place l = record {
  flat : AreFlat l.classes.items.items;
  long : length l.classes.items.items ≡ length l.fn.classes.items.items;
  joined : (js : List Sort) → Agree l.classes js ↔ (Agree l.fn.classes js × AreTaken js l.wanted l.arguments l.place);
}
