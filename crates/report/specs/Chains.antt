-- The text of a proposition along the chain that it lies in: what each link puts in front of all that stands before it,
-- and what behind.
use Rattle.std.specs.Prelude.{ℕ, List, [], ◌∷◌, ◌++◌, Bool, true, false, ◌||◌, codes}
use Rattle.conditions.specs.contracts.prop.ConnectivePartialEq.TheImpl.{ghosts as connective_equality}
use Rattle.conditions.specs.declared.prop.Connective.{Connective}
use Rattle.conditions.specs.declared.prop.Connective.TheVariants.{And, Or, Implies}
use Rattle.conditions.specs.Conditions.{Formula, truth, falsehood, equals, negation, conjunction, disjunction, implication, Growth, denies, joins}
use Rattle.report.specs.declared.propositions.Root.{Root}
use Rattle.report.specs.declared.propositions.Root.TheVariants.{Simple, Joined}
use Rattle.report.specs.Texts.{opening, closing, operand, formula_text}

abbrev pub root : Formula → Root
root truth = Simple
root falsehood = Simple
root (equals place value) = Simple
root (negation a) = Simple
root (conjunction a b) = Joined And
root (disjunction a b) = Joined Or
root (implication a b) = Joined Implies

abbrev pub root_by : Growth → Root
root_by denies = Simple
root_by (joins o b) = Joined o

abbrev pub root_after : Root → List Growth → Root
root_after r [] = r
root_after r (s ∷ ss) = root_after (root_by s) ss

abbrev pub is_simple : Root → Bool
is_simple Simple = true
is_simple (Joined o) = false

abbrev pub is_of : Connective → Root → Bool
is_of o Simple = false
is_of o (Joined p) = connective_equality.eq o p

abbrev pub is_bare_left : Connective → Root → Bool
is_bare_left And r = is_simple r || is_of And r
is_bare_left Or r = is_simple r || is_of Or r
is_bare_left Implies r = is_simple r

abbrev pub is_bare_right : Connective → Root → Bool
is_bare_right And r = is_simple r
is_bare_right Or r = is_simple r
is_bare_right Implies r = is_simple r || is_of Implies r

abbrev pub sign : Connective → List ℕ
sign And = codes " /\\ "
sign Or = codes " \\/ "
sign Implies = codes " => "

abbrev pub denial : Bool → List ℕ
denial bare = codes "~" ++ opening bare

abbrev pub front : Growth → Root → List ℕ
front denies r = denial (is_simple r)
front (joins o b) r = opening (is_bare_left o r)

abbrev pub joined : Connective → Formula → Root → List ℕ
joined o b r = closing (is_bare_left o r) ++ sign o ++ operand (is_bare_right o (root b)) (formula_text b)

abbrev pub back : Growth → Root → List ℕ
back denies r = closing (is_simple r)
back (joins o b) r = joined o b r

abbrev pub fronts : Root → List Growth → List ℕ
fronts r [] = []
fronts r (s ∷ ss) = fronts (root_by s) ss ++ front s r

abbrev pub backs : Root → List Growth → List ℕ
backs r [] = []
backs r (s ∷ ss) = back s r ++ backs (root_by s) ss
