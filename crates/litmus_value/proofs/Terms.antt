-- The numerals of a term, link by link.
use Rattle.std.proofs.Common.{◌≡◌, List, [], ◌∷◌, ◌++◌, map, refl, sym, ◌∙◌, ap}
use Rattle.std.specs.List.{flat_map}
use Rattle.std.proofs.lemmas.List.{append_assoc, append-nil}
use Rattle.litmus_tree.specs.declared.expression.Expression.{Expression}
use Rattle.litmus_tree.specs.declared.expression.Operator.TheVariants.{Equal, Unequal, Both, Either}
use Rattle.litmus_tree.specs.Tree.{Term, Growth, denies, joins, grown, along, leaf_of, growth_of, term_of}
use Rattle.litmus_value.specs.Gathering.{Gathered, all_noted}
use Rattle.litmus_value.specs.Values.{term_numerals, growth_numerals}
use Rattle.litmus_value.proofs.Noted.{noted_append}

numerals_grown : (a : Term) (s : Growth) → term_numerals (grown a s) ≡ term_numerals a ++ growth_numerals s
numerals_grown a denies = sym (append-nil (term_numerals a))
numerals_grown a (joins Equal b) = refl
numerals_grown a (joins Unequal b) = refl
numerals_grown a (joins Both b) = refl
numerals_grown a (joins Either b) = refl

numerals_along : (a : Term) (ss : List Growth) → term_numerals (along a ss) ≡ term_numerals a ++ flat_map growth_numerals ss
numerals_along a [] = sym (append-nil (term_numerals a))
numerals_along a (s ∷ ss) =
    numerals_along (grown a s) ss ∙ ap (λ cs. cs ++ flat_map growth_numerals ss) (numerals_grown a s) ∙ append_assoc (term_numerals a) (growth_numerals s) (flat_map growth_numerals ss)

pub term_noted : (g : Gathered) (e : Expression) → all_noted g (term_numerals (term_of e)) ≡ all_noted (all_noted g (term_numerals (leaf_of e.first))) (flat_map growth_numerals (map growth_of e.rest.items))
term_noted g e =
    ap (λ ns. all_noted g ns) (numerals_along (leaf_of e.first) (map growth_of e.rest.items)) ∙ noted_append g (term_numerals (leaf_of e.first)) (flat_map growth_numerals (map growth_of e.rest.items))
