-- The condition of a test as a tree. (herd7 manual, final conditions.)
use Rattle.std.specs.Prelude.{ℕ, List, [], ◌∷◌, map}
use Rattle.conditions.specs.declared.place.Place.{Place}
use Rattle.conditions.specs.declared.condition.Kind.{Kind}
use Rattle.conditions.specs.declared.prop.Atom.{Atom}
use Rattle.conditions.specs.declared.prop.Atom.TheVariants.{True, False, Equals}
use Rattle.conditions.specs.declared.prop.Connective.{Connective}
use Rattle.conditions.specs.declared.prop.Connective.TheVariants.{And, Or, Implies}
use Rattle.conditions.specs.declared.prop.Prop.{Prop, Prop-F}
use Rattle.conditions.specs.declared.prop.Link.{Link, Link-F, fold-Link}

-- a proposition over a final state
pub data Formula : Type 0 where
  truth : Formula
  falsehood : Formula
  equals : Place → ℕ → Formula
  negation : Formula → Formula
  conjunction : Formula → Formula → Formula
  disjunction : Formula → Formula → Formula
  implication : Formula → Formula → Formula

pub record Condition : Type 0 where
  pub kind : Kind
  pub formula : Formula

-- A proposition lies in memory as the atom on the far left of its formula, and the links from there up to the root.

abbrev pub atomic : Atom → Formula
atomic True = truth
atomic False = falsehood
atomic (Equals place value) = equals place value

abbrev pub connected : Connective → Formula → Formula → Formula
connected And = conjunction
connected Or = disjunction
connected Implies = implication

-- what a link does to the formula before it
pub data Growth : Type 0 where
  denies : Growth
  joins : Connective → Formula → Growth

abbrev pub grown : Formula → Growth → Formula
grown a denies = negation a
grown a (joins o b) = connected o a b

-- the formula of a, and of the links behind it: a chain is folded from the left
abbrev pub along : Formula → List Growth → Formula
along a [] = a
along a (s ∷ ss) = along (grown a s) ss

-- one level of a link, where each proposition inside is seen as its formula; and of a proposition
abbrev pub link_layer : Link-F Growth Formula → Growth
link_layer Link-F.Not = denies
link_layer (Link-F.Join o b) = joins o b

abbrev pub layer : Prop-F Growth Formula → Formula
layer p = along (atomic p.first) p.rest.items

abbrev pub growth_of : Link → Growth
growth_of = fold-Link Growth Formula link_layer layer

-- the formula of a proposition, apart from how it lies in memory
abbrev pub formula_of : Prop → Formula
formula_of p = along (atomic p.first) (map growth_of p.rest.items)
