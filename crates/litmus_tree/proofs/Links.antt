-- One link more.
use Rattle.std.proofs.Common.{◌≡◌, List, [], ◌∷◌, ◌++◌, map, ap, refl, ◌∙◌}
use Rattle.litmus_tree.specs.declared.expression.Link.{Link}
use Rattle.litmus_tree.specs.Tree.{Term, Growth, grown, along, growth_of}

along_push : (a : Term) (ss : List Growth) (s : Growth) → along a (ss ++ s ∷ []) ≡ grown (along a ss) s
along_push a [] s = refl
along_push a (t ∷ ss) s = along_push (grown a t) ss s

map_push : (xs : List Link) (x : Link) → map growth_of (xs ++ x ∷ []) ≡ map growth_of xs ++ growth_of x ∷ []
map_push [] x = refl
map_push (y ∷ xs) x = ap (λ l. growth_of y ∷ l) (map_push xs x)

pub term_push : (a : Term) (xs : List Link) (x : Link) → along a (map growth_of (xs ++ x ∷ [])) ≡ grown (along a (map growth_of xs)) (growth_of x)
term_push a xs x = ap (along a) (map_push xs x) ∙ along_push a (map growth_of xs) (growth_of x)
