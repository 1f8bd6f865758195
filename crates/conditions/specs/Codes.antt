-- Codes of the trees, by which the prover tells values of a modelled type apart. No contract rests on them.
-- A formula is coded by the number of its case, and the codes of its parts.
use Rattle.std.specs.Prelude.{refl}
use Rattle.std.specs.Coded.{Coded, code_by, coded×, coded_ℕ}
use Rattle.std.proofs.Common.{ap, ◌≡◌}
use base.Stored.{Gv, gnil, gnum, gcons}
use Rattle.conditions.specs.Conditions.{Formula, truth, falsehood, equals, negation, conjunction, disjunction, implication, Condition}
use Rattle.conditions.specs.contracts.condition.Kind.{the_row as kind_row}
use Rattle.conditions.specs.contracts.place.Place.{the_row as place_row}
use Rattle.conditions.specs.declared.condition.Kind.{Kind}

abbrev pub head : Gv → Gv
head gnil = gnil
head (gnum n) = gnil
head (gcons a b) = a

abbrev pub tail : Gv → Gv
tail gnil = gnil
tail (gnum n) = gnil
tail (gcons a b) = b

abbrev pub formula_code : Formula → Gv
formula_code truth = gcons (gnum 0) gnil
formula_code falsehood = gcons (gnum 1) gnil
formula_code (equals a0 a1) = gcons (gnum 2) (gcons (place_row.coded.code a0) (coded_ℕ.code a1))
formula_code (negation a0) = gcons (gnum 3) (formula_code a0)
formula_code (conjunction a0 a1) = gcons (gnum 4) (gcons (formula_code a0) (formula_code a1))
formula_code (disjunction a0 a1) = gcons (gnum 5) (gcons (formula_code a0) (formula_code a1))
formula_code (implication a0 a1) = gcons (gnum 6) (gcons (formula_code a0) (formula_code a1))

pub formula_inj : (x y : Formula) → formula_code x ≡ formula_code y → x ≡ y
formula_inj truth truth p = refl
formula_inj falsehood falsehood p = refl
formula_inj (equals a0 a1) (equals b0 b1) p = λ i. equals (place_row.coded.inj a0 b0 (ap (λ g. head (tail g)) p) i) (coded_ℕ.inj a1 b1 (ap (λ g. tail (tail g)) p) i)
formula_inj (negation a0) (negation b0) p = λ i. negation (formula_inj a0 b0 (ap (λ g. tail g) p) i)
formula_inj (conjunction a0 a1) (conjunction b0 b1) p = λ i. conjunction (formula_inj a0 b0 (ap (λ g. head (tail g)) p) i) (formula_inj a1 b1 (ap (λ g. tail (tail g)) p) i)
formula_inj (disjunction a0 a1) (disjunction b0 b1) p = λ i. disjunction (formula_inj a0 b0 (ap (λ g. head (tail g)) p) i) (formula_inj a1 b1 (ap (λ g. tail (tail g)) p) i)
formula_inj (implication a0 a1) (implication b0 b1) p = λ i. implication (formula_inj a0 b0 (ap (λ g. head (tail g)) p) i) (formula_inj a1 b1 (ap (λ g. tail (tail g)) p) i)
formula_inj x y p = absurd (cc)

abbrev pub coded_formula : Coded Formula
coded_formula = record { code = formula_code; inj = formula_inj }

abbrev pub coded_condition : Coded Condition
coded_condition = code_by (Kind × Formula) (coded× kind_row.coded coded_formula) (λ c. (c.kind, c.formula)) (λ p. record { kind = p.0; formula = p.1 }) (λ _. refl)
