-- Terms along the chains that their expressions lie in: what a link does, and how a definition by recursion on terms goes
-- along a chain.
use Rattle.std.specs.Prelude.{◌≡◌, List, [], ◌∷◌, refl}
use Rattle.std.proofs.Common.{◌∙◌, ap, sym}
use Rattle.litmus_tree.specs.declared.expression.Operator.{Operator}
use Rattle.litmus_tree.specs.declared.expression.Expression.{Expression, fold-Expression, fold_out-Expression}
use Rattle.litmus_tree.specs.declared.expression.Link.{Link-F, Join, fold-roll-Link}
use Rattle.litmus_tree.specs.declared.expression.Link.TheVariants.{rolls-Join}
use Rattle.litmus_tree.specs.Tree.{Term, Growth, joins, grown, along, link_layer, expression_layer, growth_of, term_of}

term_is : (e : Expression) → fold-Expression Growth Term link_layer expression_layer e ≡ term_of e
term_is e = fold_out-Expression Growth Term link_layer expression_layer e

-- what a link with an operator does
pub join_is : (o : Operator) (e : Expression) → growth_of (Join o e) ≡ joins o (term_of e)
join_is o e = ap growth_of (sym (rolls-Join o e)) ∙ fold-roll-Link Growth Term link_layer expression_layer (Link-F.Join o e) ∙ ap (joins o) (term_is e)

-- g, from x, link by link
abbrev pub run : {A : Type 0} → (A → Growth → A) → A → List Growth → A
run g x [] = x
run g x (s ∷ ss) = run g (g x s) ss

-- What each link makes of the value of the term before it goes along the chain.
pub along_is : {A : Type 0} (f : Term → A) (g : A → Growth → A) → ((a : Term) (s : Growth) → f (grown a s) ≡ g (f a) s) → (a : Term) (ss : List Growth) → f (along a ss) ≡ run g (f a) ss
along_is f g is a [] = refl
along_is f g is a (s ∷ ss) = along_is f g is (grown a s) ss ∙ ap (λ x. run g x ss) (is a s)
