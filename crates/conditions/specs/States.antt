-- Final states, and what holds in them. (herd7 manual, final conditions.)
use Rattle.std.specs.Prelude.{◌≡◌, ℕ, ◌<◌, List, [], ◌∷◌, ◌++◌, Bool, true, false, not, ◌==◌, ◌&&◌, ◌||◌, if◌then◌else◌, ◌⊎◌}
use Rattle.std.specs.Cmp.Lexicographic.{slice_cmp}
use Rattle.std.specs.Ordering.{nat_cmp}
use Rattle.std.specs.declared.cmp.Ordering.TheVariants.{Less}
use Rattle.listings.specs.Lists.{IsIn, Lists}
use Rattle.conditions.specs.declared.place.Binding.{Binding}
use Rattle.conditions.specs.declared.condition.Kind.{Kind}
use Rattle.conditions.specs.declared.condition.Kind.TheVariants.{Exists, NotExists, Forall}
use Rattle.conditions.specs.declared.place.Place.{Place}
use Rattle.conditions.specs.declared.place.Place.TheVariants.{Reg, Loc}
use Rattle.conditions.specs.Equality.{same_place}
use Rattle.conditions.specs.Conditions.{Formula, truth, falsehood, equals, negation, conjunction, disjunction, implication, Condition}

-- each place with the value at its index
abbrev pub bindings : List Place → List ℕ → List Binding
bindings [] values = []
bindings (p ∷ places) [] = []
bindings (p ∷ places) (v ∷ values) = record { place = p; value = v } ∷ bindings places values

-- the value of a place; a place that the state doesn't list has 0
abbrev pub value_at : List Binding → Place → ℕ
value_at [] place = 0
value_at (b ∷ state) place = if same_place b.place place then b.value else value_at state place

-- whether the proposition holds in the state
abbrev pub holds_in : List Binding → Formula → Bool
holds_in state truth = true
holds_in state falsehood = false
holds_in state (equals place value) = value_at state place == value
holds_in state (negation a) = not (holds_in state a)
holds_in state (conjunction a b) = holds_in state a && holds_in state b
holds_in state (disjunction a b) = holds_in state a || holds_in state b
holds_in state (implication a b) = not (holds_in state a) || holds_in state b

-- whether the answer is Ok, by the numbers of executions that have the proposition and that have it not
abbrev pub answers_ok : Kind → ℕ → ℕ → Bool
answers_ok Exists positive negative = not (positive == 0)
answers_ok NotExists positive negative = positive == 0
answers_ok Forall positive negative = negative == 0

-- the proposition speaks of the place
abbrev pub Mentions : Formula → Place → Type 0
Mentions truth p = ⊥
Mentions falsehood p = ⊥
Mentions (equals place value) p = p ≡ place
Mentions (negation a) p = Mentions a p
Mentions (conjunction a b) p = Mentions a p ⊎ Mentions b p
Mentions (disjunction a b) p = Mentions a p ⊎ Mentions b p
Mentions (implication a b) p = Mentions a p ⊎ Mentions b p

-- the places of a proposition from the left, as often as it speaks of them
abbrev pub mentioned : Formula → List Place
mentioned truth = []
mentioned falsehood = []
mentioned (equals place value) = place ∷ []
mentioned (negation a) = mentioned a
mentioned (conjunction a b) = mentioned a ++ mentioned b
mentioned (disjunction a b) = mentioned a ++ mentioned b
mentioned (implication a b) = mentioned a ++ mentioned b

-- a name comes before another, by their bytes
abbrev pub ComesBefore : List ℕ → List ℕ → Type 0
ComesBefore x y = slice_cmp nat_cmp x y ≡ Less

-- registers by thread and then name, then locations by name
abbrev pub Precedes : Place → Place → Type 0
Precedes (Reg k x) (Reg j y) = (k < j) ⊎ ((k ≡ j) × ComesBefore x y)
Precedes (Reg k x) (Loc y) = Unit {0}
Precedes (Loc x) (Reg k y) = ⊥
Precedes (Loc x) (Loc y) = ComesBefore x y

-- each place precedes the next
abbrev pub AreInOrder : List Place → Type 0
AreInOrder [] = Unit {0}
AreInOrder (p ∷ []) = Unit {0}
AreInOrder (p ∷ q ∷ rest) = Precedes p q × AreInOrder (q ∷ rest)

-- The observed places: those of the condition and those that are listed, once each, in order.
pub record AreObserved (condition : Condition) (listed places : List Place) : Type 0 where
  pub members : Lists (λ p. Mentions condition.formula p ⊎ IsIn p listed) places
  pub order : AreInOrder places
