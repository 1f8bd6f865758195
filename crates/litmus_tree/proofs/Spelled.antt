-- Terms that are written link by link, and statements one by one.
use Rattle.std.proofs.Common.{◌≡◌, ℕ, List, [], ◌∷◌, length, suc, refl, ap}
use Rattle.litmus_tree.specs.Chains.{run, along_is}
use Rattle.litmus_tree.specs.Spellings.{term_over, growth_over, count}
use Rattle.litmus_tree.specs.Tree.{Term, grown, along, Growth, denies, joins, steps_of}
use Rattle.litmus_tree.specs.declared.expression.Operator.TheVariants.{Equal, Unequal, Both, Either}
use Rattle.litmus_tree.specs.declared.tree.Statement.{Statement}

grown_over : (s : List ℕ) (a : Term) (g : Growth) → term_over (grown a g) s ≡ growth_over (term_over a s) g
grown_over s a denies = refl
grown_over s a (joins Equal b) = refl
grown_over s a (joins Unequal b) = refl
grown_over s a (joins Both b) = refl
grown_over s a (joins Either b) = refl

pub term_along : (s : List ℕ) (a : Term) (gs : List Growth) → term_over (along a gs) s ≡ run growth_over (term_over a s) gs
term_along s = along_is (λ a. term_over a s) growth_over (grown_over s)

pub count_is : (xs : List Statement) → count (steps_of xs) ≡ length xs
count_is [] = refl
count_is (x ∷ xs) = ap suc (count_is xs)
