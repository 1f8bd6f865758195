-- The tests that `==` makes: of places, bindings, propositions and conditions.
use Rattle.std.specs.Prelude.{◌==◌, ◌&&◌, Bool, true, false}
use Rattle.std.specs.Str.{bytes_eq}
use Rattle.conditions.specs.Conditions.{Formula, truth, falsehood, equals, negation, conjunction, disjunction, implication, Condition}
use Rattle.conditions.specs.declared.condition.Kind.{Kind}
use Rattle.conditions.specs.declared.condition.Kind.TheVariants.{Exists, NotExists, Forall}
use Rattle.conditions.specs.declared.place.Binding.{Binding}
use Rattle.conditions.specs.declared.place.Place.{Place}
use Rattle.conditions.specs.declared.place.Place.TheVariants.{Reg, Loc}

abbrev pub same_place : Place → Place → Bool
same_place (Reg k x) (Reg j y) = (k == j) && bytes_eq x y
same_place (Loc x) (Loc y) = bytes_eq x y
same_place a b = false

abbrev pub same_binding : Binding → Binding → Bool
same_binding a b = same_place a.place b.place && (a.value == b.value)

abbrev pub same_formula : Formula → Formula → Bool
same_formula truth truth = true
same_formula falsehood falsehood = true
same_formula (equals p v) (equals q w) = same_place p q && (v == w)
same_formula (negation a) (negation b) = same_formula a b
same_formula (conjunction a b) (conjunction c d) = same_formula a c && same_formula b d
same_formula (disjunction a b) (disjunction c d) = same_formula a c && same_formula b d
same_formula (implication a b) (implication c d) = same_formula a c && same_formula b d
same_formula a b = false

abbrev pub same_kind : Kind → Kind → Bool
same_kind Exists Exists = true
same_kind NotExists NotExists = true
same_kind Forall Forall = true
same_kind a b = false

abbrev pub same_condition : Condition → Condition → Bool
same_condition a b = same_kind a.kind b.kind && same_formula a.formula b.formula
