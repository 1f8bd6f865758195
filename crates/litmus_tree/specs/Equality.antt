-- The tests that `==` makes: of the parts of a thread, of threads and of tests. Two are equal where their trees are.
use Rattle.std.specs.Prelude.{◌==◌, ◌&&◌, Bool, true, false, Option, None, Some}
use Rattle.std.specs.Cmp.Lexicographic.{pointwise}
use Rattle.std.specs.Str.{bytes_eq}
use Rattle.conditions.specs.Equality.{same_place, same_binding, same_condition}
use Rattle.events.specs.contracts.event.OrderPartialEq.TheImpl.{ghosts as order_equality}
use Rattle.litmus_tree.specs.contracts.tree.ComputationPartialEq.TheImpl.{ghosts as computation_equality}
use Rattle.litmus_tree.specs.contracts.tree.LocationKindPartialEq.TheImpl.{ghosts as kind_equality}
use Rattle.litmus_tree.specs.declared.tree.Parameter.{Parameter}
use Rattle.litmus_tree.specs.Tree.{Term, number, held, denied, equal, unequal, both, either, Action, load, store, exchange, modify, fence, Right, computed, plain_read, value_of, Declared, Step, empty, block, declare, assign, plain_write, perform, if_only, if_else, Steps, no_steps, in_turn, Program, Litmus}

abbrev pub same_parameter : Parameter → Parameter → Bool
same_parameter a b = bytes_eq a.name b.name && kind_equality.eq a.kind b.kind

abbrev pub same_term : Term → Term → Bool
same_term (number a) (number b) = a == b
same_term (held r) (held s) = bytes_eq r s
same_term (denied a) (denied b) = same_term a b
same_term (equal a b) (equal c d) = same_term a c && same_term b d
same_term (unequal a b) (unequal c d) = same_term a c && same_term b d
same_term (both a b) (both c d) = same_term a c && same_term b d
same_term (either a b) (either c d) = same_term a c && same_term b d
same_term a b = false

abbrev pub same_action : Action → Action → Bool
same_action (load x o) (load y p) = bytes_eq x y && order_equality.eq o p
same_action (store x e o) (store y f p) = bytes_eq x y && same_term e f && order_equality.eq o p
same_action (exchange x e o) (exchange y f p) = bytes_eq x y && same_term e f && order_equality.eq o p
same_action (modify x f c o) (modify y g d p) = bytes_eq x y && computation_equality.eq f g && c == d && order_equality.eq o p
same_action (fence o) (fence p) = order_equality.eq o p
same_action a b = false

abbrev pub same_right : Right → Right → Bool
same_right (computed a) (computed b) = same_term a b
same_right (plain_read x) (plain_read y) = bytes_eq x y
same_right (value_of a) (value_of b) = same_action a b
same_right a b = false

abbrev pub same_optional : Option Right → Option Right → Bool
same_optional None None = true
same_optional (Some a) (Some b) = same_right a b
same_optional a b = false

abbrev pub same_declared : Declared → Declared → Bool
same_declared a b = bytes_eq a.register b.register && same_optional a.value b.value

abbrev mutual
  pub same_step : Step → Step → Bool
  same_step empty empty = true
  same_step (block ss) (block ts) = same_steps ss ts
  same_step (declare ds) (declare es) = pointwise same_declared ds es
  same_step (assign r v) (assign s w) = bytes_eq r s && same_right v w
  same_step (plain_write x e) (plain_write y f) = bytes_eq x y && same_term e f
  same_step (perform a) (perform b) = same_action a b
  same_step (if_only c a) (if_only d b) = same_term c d && same_step a b
  same_step (if_else c a e) (if_else d b f) = same_term c d && same_step a b && same_step e f
  same_step s t = false

  pub same_steps : Steps → Steps → Bool
  same_steps no_steps no_steps = true
  same_steps (in_turn s ss) (in_turn t ts) = same_step s t && same_steps ss ts
  same_steps ss ts = false

abbrev pub same_program : Program → Program → Bool
same_program a b = pointwise same_parameter a.parameters b.parameters && same_steps a.steps b.steps && pointwise bytes_eq a.registers b.registers

abbrev pub same_litmus : Litmus → Litmus → Bool
same_litmus a b =
    bytes_eq a.name b.name && pointwise same_binding a.initial b.initial && pointwise same_program a.threads b.threads && same_condition a.condition b.condition &&
    pointwise same_place a.listed b.listed && pointwise bytes_eq a.locations b.locations
