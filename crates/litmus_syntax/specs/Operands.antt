-- How many right operands of a tree stand in one another: what goes along chains by a loop recurses so deep.
use Rattle.std.specs.Prelude.{ℕ, ◌+◌, max}
use Rattle.conditions.specs.Conditions.{Formula, truth, falsehood, equals, negation, conjunction, disjunction, implication}
use Rattle.litmus_tree.specs.Tree.{Term, number, held, denied, equal, unequal, both, either}

abbrev pub operands_in_term : Term → ℕ
operands_in_term (number n) = 0
operands_in_term (held r) = 0
operands_in_term (denied a) = operands_in_term a
operands_in_term (equal a b) = max (operands_in_term a) (operands_in_term b + 1)
operands_in_term (unequal a b) = max (operands_in_term a) (operands_in_term b + 1)
operands_in_term (both a b) = max (operands_in_term a) (operands_in_term b + 1)
operands_in_term (either a b) = max (operands_in_term a) (operands_in_term b + 1)

abbrev pub operands_in : Formula → ℕ
operands_in truth = 0
operands_in falsehood = 0
operands_in (equals p v) = 0
operands_in (negation a) = operands_in a
operands_in (conjunction a b) = max (operands_in a) (operands_in b + 1)
operands_in (disjunction a b) = max (operands_in a) (operands_in b + 1)
operands_in (implication a b) = max (operands_in a) (operands_in b + 1)
