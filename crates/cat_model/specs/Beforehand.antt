-- The functions that are bound before any item of a model. (herd7, the file stdlib.cat: fencerel.)
use Rattle.std.specs.Prelude.{List, [], ◌∷◌, codes}
use Rattle.cat_tree.specs.Tree.{Defined, sequence, intersection, product, universe, name}

-- let fencerel(b) = (po & (_ * b)) ; po
abbrev pub fencerel : Defined
fencerel = record {
  name = codes "fencerel";
  parameters = codes "b" ∷ [];
  value = sequence (intersection (name (codes "po")) (product universe (name (codes "b")))) (name (codes "po"));
}

abbrev pub beforehand : List Defined
beforehand = fencerel ∷ []
