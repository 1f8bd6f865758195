-- A branch as a tree, and one more statement.
use Rattle.std.proofs.Common.{◌≡◌, List, [], ◌∷◌, ◌++◌, map, ap, sym, refl, ◌∙◌, Box}
use Rattle.std.specs.Prelude.{Some, None}
use Rattle.std.specs.Global.{Global}
use Rattle.litmus_tree.specs.declared.tree.Declarator.{Declarator}
use Rattle.litmus_tree.specs.declared.expression.Expression.{Expression}
use Rattle.litmus_tree.specs.declared.tree.Statement.{Statement}
use Rattle.litmus_tree.specs.declared.tree.Statement.TheVariants.{If as If', rolls-If}
use Rattle.litmus_tree.specs.declared.tree.Statement.TheOpen.{Statement-F}
use Rattle.litmus_tree.specs.declared.tree.Statement.TheFolds.{fold-roll-Statement}
use Rattle.litmus_tree.specs.Tree.{Step, if_only, if_else, in_turn, followed, term_of, declared_of, layer, step_of, steps_of}

pub only_if : (c : Expression) (a : Box Statement Global) → step_of (If' c a None) ≡ if_only (term_of c) (step_of a.value)
only_if c a = ap step_of (sym (rolls-If c a None)) ∙ fold-roll-Statement Step layer (Statement-F.If c a None)

pub if_and_else : (c : Expression) (a b : Box Statement Global) → step_of (If' c a (Some b)) ≡ if_else (term_of c) (step_of a.value) (step_of b.value)
if_and_else c a b = ap step_of (sym (rolls-If c a (Some b))) ∙ fold-roll-Statement Step layer (Statement-F.If c a (Some b))

-- one more statement
pub pushed : (xs : List Statement) (s : Statement) → steps_of (xs ++ s ∷ []) ≡ followed (steps_of xs) (step_of s)
pushed [] s = refl
pushed (x ∷ xs) s = ap (in_turn (step_of x)) (pushed xs s)

pub declared_push : (xs : List Declarator) (d : Declarator) → map declared_of (xs ++ d ∷ []) ≡ map declared_of xs ++ declared_of d ∷ []
declared_push [] d = refl
declared_push (x ∷ xs) d = ap (λ l. declared_of x ∷ l) (declared_push xs d)
