-- Names, once each where they first stand.
use Rattle.std.specs.Prelude.{List, [], ◌∷◌, ◌++◌, fold, Bool, if◌then◌else◌}
use Rattle.std.specs.List.{list_any}
use Rattle.std.specs.Str.{bytes_eq}
use Rattle.litmus_tree.specs.Tree.{Word}

abbrev pub is_one_of : List Word → Word → Bool
is_one_of ws w = list_any (bytes_eq w) ws

-- xs, and then x where it isn't among them
abbrev pub with_name : List Word → Word → List Word
with_name xs x = if is_one_of xs x then xs else xs ++ x ∷ []

-- xs, and then each of ys that isn't there yet
abbrev pub with_names : List Word → List Word → List Word
with_names xs ys = fold with_name xs ys
