-- How many right operands stand in one another: an operand of the tightest level nests its own parentheses, and each level
-- above it adds one.
use Rattle.std.proofs.Common.{◌≡◌, ◌≤◌, ◌+◌, ◌*◌, ℕ, List, arith, refl}
use Rattle.std.specs.Prelude.{max}
use Rattle.conditions.specs.Conditions.{Formula}
use Rattle.litmus_tree.specs.declared.expression.Operator.{Operator}
use Rattle.litmus_tree.specs.declared.expression.Operator.TheVariants.{Equal, Unequal, Both, Either}
use Rattle.litmus_tree.specs.Tree.{Term, joined}
use Rattle.litmus_syntax.specs.declared.symbol.Symbol.{Symbol}
use Rattle.litmus_syntax.specs.Grammar.{IsLevel, level_unary, level_tighter, level_joined, IsUnary, unary_denied, unary_paren, unary_name, unary_number, IsExpression, IsProposition, proposition_or, proposition_implies, IsOr, or_conjunction, or_or, IsConjunction, conjunction_atomic, conjunction_and, IsAtomic, atomic_denied, atomic_paren, atomic_true, atomic_false, atomic_equals}
use Rattle.litmus_syntax.specs.Operands.{operands_in_term, operands_in}

joined_is : (o : Operator) (a b : Term) → operands_in_term (joined o a b) ≡ max (operands_in_term a) (operands_in_term b + 1)
joined_is Equal a b = refl
joined_is Unequal a b = refl
joined_is Both a b = refl
joined_is Either a b = refl

mutual
  level_bound : {k n : ℕ} {ts rest : List Symbol} {a : Term} → IsLevel k n ts rest a → operands_in_term a ≤ 3 * n + k
  level_bound (level_unary d) = omega (arith, unary_bound d)
  level_bound (level_tighter d) = omega (arith, level_bound d)
  level_bound (level_joined {o = o} {a = a} {b = b} d j e) = omega (arith, joined_is o a b, level_bound d, level_bound e)

  unary_bound : {n : ℕ} {ts rest : List Symbol} {a : Term} → IsUnary n ts rest a → operands_in_term a ≤ 3 * n
  unary_bound (unary_denied d) = omega (arith, unary_bound d)
  unary_bound (unary_paren d) = omega (arith, level_bound d)
  unary_bound unary_name = omega arith
  unary_bound unary_number = omega arith

pub expression_bound : (n : ℕ) (ts rest : List Symbol) (a : Term) → IsExpression n ts rest a → operands_in_term a ≤ 3 * n + 3
expression_bound n ts rest a d = level_bound d

mutual
  proposition-bound : {n : ℕ} {ts rest : List Symbol} {a : Formula} → IsProposition n ts rest a → operands_in a ≤ 3 * n + 2
  proposition-bound (proposition_or d) = or_bound d
  proposition-bound (proposition_implies d e) = omega (arith, or_bound d, proposition-bound e)

  or_bound : {n : ℕ} {ts rest : List Symbol} {a : Formula} → IsOr n ts rest a → operands_in a ≤ 3 * n + 2
  or_bound (or_conjunction d) = omega (arith, conjunction_bound d)
  or_bound (or_or d e) = omega (arith, or_bound d, conjunction_bound e)

  conjunction_bound : {n : ℕ} {ts rest : List Symbol} {a : Formula} → IsConjunction n ts rest a → operands_in a ≤ 3 * n + 1
  conjunction_bound (conjunction_atomic d) = omega (arith, atomic_bound d)
  conjunction_bound (conjunction_and d e) = omega (arith, conjunction_bound d, atomic_bound e)

  atomic_bound : {n : ℕ} {ts rest : List Symbol} {a : Formula} → IsAtomic n ts rest a → operands_in a ≤ 3 * n
  atomic_bound (atomic_denied t d) = omega (arith, atomic_bound d)
  atomic_bound (atomic_paren d) = omega (arith, proposition-bound d)
  atomic_bound atomic_true = omega arith
  atomic_bound atomic_false = omega arith
  atomic_bound (atomic_equals p) = omega arith

pub proposition_bound : (n : ℕ) (ts rest : List Symbol) (a : Formula) → IsProposition n ts rest a → operands_in a ≤ 3 * n + 2
proposition_bound n ts rest a d = proposition-bound d
