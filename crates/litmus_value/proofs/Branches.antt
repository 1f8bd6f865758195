-- The numerals of a branch, one part after another.
use Rattle.std.proofs.Common.{◌≡◌, ◌++◌, ap, ◌∙◌, Box}
use Rattle.std.specs.Prelude.{Option, None, Some}
use Rattle.std.specs.Global.{Global}
use Rattle.litmus_tree.specs.declared.expression.Expression.{Expression}
use Rattle.litmus_tree.specs.declared.tree.Statement.{Statement}
use Rattle.litmus_tree.specs.declared.tree.Statement.TheVariants.{If as If'}
use Rattle.litmus_tree.specs.Tree.{term_of, step_of}
use Rattle.litmus_tree.proofs.Steps.{only_if, if_and_else}
use Rattle.litmus_value.specs.Gathering.{Gathered, all_noted}
use Rattle.litmus_value.specs.Values.{term_numerals, step_numerals}
use Rattle.litmus_value.proofs.Noted.{noted_append}

pub branch_only : (s : Statement) (c : Expression) (a : Box Statement Global) (o : Option (Box Statement Global)) (g : Gathered) → s ≡ If' c a o → o ≡ None → all_noted g (step_numerals (step_of s)) ≡ all_noted (all_noted g (term_numerals (term_of c))) (step_numerals (step_of a.value))
branch_only s c a o g e f =
    ap (λ t. all_noted g (step_numerals (step_of t))) (e ∙ ap (If' c a) f) ∙ ap (λ t. all_noted g (step_numerals t)) (only_if c a) ∙ noted_append g (term_numerals (term_of c)) (step_numerals (step_of a.value))

pub branch_else : (s : Statement) (c : Expression) (a b : Box Statement Global) (o : Option (Box Statement Global)) (g : Gathered) → s ≡ If' c a o → o ≡ Some b → all_noted g (step_numerals (step_of s)) ≡
    all_noted (all_noted (all_noted g (term_numerals (term_of c))) (step_numerals (step_of a.value))) (step_numerals (step_of b.value))
branch_else s c a b o g e f =
    ap (λ t. all_noted g (step_numerals (step_of t))) (e ∙ ap (If' c a) f) ∙ ap (λ t. all_noted g (step_numerals t)) (if_and_else c a b)
    ∙ noted_append g (term_numerals (term_of c) ++ step_numerals (step_of a.value)) (step_numerals (step_of b.value))
    ∙ ap (λ h. all_noted h (step_numerals (step_of b.value))) (noted_append g (term_numerals (term_of c)) (step_numerals (step_of a.value)))
