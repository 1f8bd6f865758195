-- What names are bound to in the code, the latest last. (No statement on what a model is rests on this.)
use Rattle.std.specs.Prelude.{List, [], ◌∷◌, Option, None, Some, cond, Bool, ◌||◌}
use Rattle.std.specs.Option.{option_or, is_some}
use Rattle.std.specs.Str.{bytes_eq}
use Rattle.cat_tree.specs.Tree.{Word}
use Rattle.cat_model.specs.Named.{named_of}
use Rattle.cat_model.specs.declared.scope.BoundName.{BoundName}
use Rattle.cat_model.specs.declared.scope.Held.{Held}

-- what the latest that has the label x is
abbrev pub latest_in : {Y Z : Type 0} → (Y → Word) → (Y → Z) → List Y → Word → Option Z
latest_in label what [] x = None
latest_in label what (y ∷ ys) x = option_or (latest_in label what ys x) (cond (bytes_eq (label y) x) (Some (what y)) None)

abbrev pub held_in : List BoundName → Word → Option Held
held_in ns x = latest_in (λ n. n.name.now) (λ n. n.held) ns x

-- x stands for something
abbrev pub is_known : List BoundName → Word → Bool
is_known ns x = is_some (held_in ns x) || is_some (named_of x)
