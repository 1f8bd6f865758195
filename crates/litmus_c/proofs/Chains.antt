-- What is said of a chain is said of what it begins with, and of each link.
use Rattle.std.proofs.Common.{◌≡◌, List, [], ◌∷◌, ap, sym, refl, ◌∙◌}
use Rattle.std.specs.Prelude.{Bool, true, false, ◌&&◌}
use Rattle.std.specs.List.{list_all}
use Rattle.conditions.specs.Conditions as chains
use Rattle.conditions.specs.Conditions.{Formula}
use Rattle.conditions.specs.declared.prop.Connective.TheVariants.{And, Or, Implies}
use Rattle.litmus_c.specs.declared.rules.Rule.{Rule}
use Rattle.litmus_c.specs.Rules.{term_keeps, growth_keeps, formula_is_fair, connected_is_fair}
use Rattle.litmus_tree.specs.declared.expression.Operator.TheVariants.{Equal, Unequal, Both, Either}
use Rattle.litmus_tree.specs.declared.tree.Parameter.{Parameter}
use Rattle.litmus_tree.specs.Tree.{Word, Term, Growth, denies, joins, grown, along, Program}

and_true : (b : Bool) → (b && true) ≡ b
and_true true = refl
and_true false = refl

and_assoc : (a b c : Bool) → ((a && b) && c) ≡ (a && (b && c))
and_assoc true b c = refl
and_assoc false b c = refl

keeps_grown : (k : Rule) (ps : List Parameter) (rs : List Word) (a : Term) (s : Growth) → term_keeps k ps rs (grown a s) ≡ (term_keeps k ps rs a && growth_keeps k ps rs s)
keeps_grown k ps rs a denies = sym (and_true (term_keeps k ps rs a))
keeps_grown k ps rs a (joins Equal b) = refl
keeps_grown k ps rs a (joins Unequal b) = refl
keeps_grown k ps rs a (joins Both b) = refl
keeps_grown k ps rs a (joins Either b) = refl

keeps_along : (k : Rule) (ps : List Parameter) (rs : List Word) (a : Term) (ss : List Growth) → term_keeps k ps rs (along a ss) ≡ (term_keeps k ps rs a && list_all (growth_keeps k ps rs) ss)
keeps_along k ps rs a [] = sym (and_true (term_keeps k ps rs a))
keeps_along k ps rs a (s ∷ ss) =
    keeps_along k ps rs (grown a s) ss ∙ ap (λ b. b && list_all (growth_keeps k ps rs) ss) (keeps_grown k ps rs a s) ∙
    and_assoc (term_keeps k ps rs a) (growth_keeps k ps rs s) (list_all (growth_keeps k ps rs) ss)

pub kept_behind : (k : Rule) (ps : List Parameter) (rs : List Word) (a : Term) (ss : List Growth) → term_keeps k ps rs a ≡ true → list_all (growth_keeps k ps rs) ss ≡ term_keeps k ps rs (along a ss)
kept_behind k ps rs a ss h = ap (λ b. b && list_all (growth_keeps k ps rs) ss) (sym h) ∙ sym (keeps_along k ps rs a ss)

pub broken_before : (k : Rule) (ps : List Parameter) (rs : List Word) (a : Term) (ss : List Growth) → term_keeps k ps rs a ≡ false → false ≡ term_keeps k ps rs (along a ss)
broken_before k ps rs a ss h = ap (λ b. b && list_all (growth_keeps k ps rs) ss) (sym h) ∙ sym (keeps_along k ps rs a ss)

fair_grown : (ps : List Program) (xs : List Word) (a : Formula) (s : chains.Growth) → formula_is_fair ps xs (chains.grown a s) ≡ (formula_is_fair ps xs a && connected_is_fair ps xs s)
fair_grown ps xs a chains.denies = sym (and_true (formula_is_fair ps xs a))
fair_grown ps xs a (chains.joins And b) = refl
fair_grown ps xs a (chains.joins Or b) = refl
fair_grown ps xs a (chains.joins Implies b) = refl

fair_along : (ps : List Program) (xs : List Word) (a : Formula) (ss : List chains.Growth) → formula_is_fair ps xs (chains.along a ss) ≡ (formula_is_fair ps xs a && list_all (connected_is_fair ps xs) ss)
fair_along ps xs a [] = sym (and_true (formula_is_fair ps xs a))
fair_along ps xs a (s ∷ ss) =
    fair_along ps xs (chains.grown a s) ss ∙ ap (λ b. b && list_all (connected_is_fair ps xs) ss) (fair_grown ps xs a s) ∙
    and_assoc (formula_is_fair ps xs a) (connected_is_fair ps xs s) (list_all (connected_is_fair ps xs) ss)

pub fair_behind : (ps : List Program) (xs : List Word) (a : Formula) (ss : List chains.Growth) → formula_is_fair ps xs a ≡ true → list_all (connected_is_fair ps xs) ss ≡ formula_is_fair ps xs (chains.along a ss)
fair_behind ps xs a ss h = ap (λ b. b && list_all (connected_is_fair ps xs) ss) (sym h) ∙ sym (fair_along ps xs a ss)

pub unfair_before : (ps : List Program) (xs : List Word) (a : Formula) (ss : List chains.Growth) → formula_is_fair ps xs a ≡ false → false ≡ formula_is_fair ps xs (chains.along a ss)
unfair_before ps xs a ss h = ap (λ b. b && list_all (connected_is_fair ps xs) ss) (sym h) ∙ sym (fair_along ps xs a ss)
