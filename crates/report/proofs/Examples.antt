-- Computed examples of the printed summary.
use Rattle.std.specs.Prelude.{◌≡◌, refl, [], ◌∷◌, codes, decimal}
use Rattle.std.proofs.Common.{lit<}
use Rattle.std.proofs.lemmas.Fmt.{decimal_digit}
use Rattle.conditions.specs.Conditions.{Formula, truth, falsehood, equals, negation, conjunction, disjunction, implication}
use Rattle.conditions.specs.declared.condition.Kind.TheVariants.{Exists, Forall}
use Rattle.conditions.specs.declared.place.Place.TheVariants.{Reg, Loc}
use Rattle.report.specs.Texts.{formula_text, Text}

zero_text : decimal 0 ≡ codes "0"
zero_text = decimal_digit 0 (lit< tt)

one_text : decimal 1 ≡ codes "1"
one_text = decimal_digit 1 (lit< tt)

abbrev x : Formula
x = equals (Loc (codes "x")) 1

abbrev r : Formula
r = equals (Reg 0 (codes "r0")) 0

-- `/\` and `\/` associate to the left, `=>` to the right
pub to_the_left : formula_text (conjunction (conjunction x r) (conjunction x r)) ≡ codes "[x]=1 /\\ 0:r0=0 /\\ ([x]=1 /\\ 0:r0=0)"
to_the_left = rw (zero_text, one_text) refl

pub to_the_right : formula_text (implication (implication x r) (implication x r)) ≡ codes "([x]=1 => 0:r0=0) => [x]=1 => 0:r0=0"
to_the_right = rw (zero_text, one_text) refl

pub mixed : formula_text (disjunction (disjunction x (negation r)) (conjunction truth falsehood)) ≡ codes "[x]=1 \\/ ~0:r0=0 \\/ (true /\\ false)"
mixed = rw (zero_text, one_text) refl

pub negated : formula_text (negation (negation (conjunction x r))) ≡ codes "~~([x]=1 /\\ 0:r0=0)"
negated = rw (zero_text, one_text) refl

-- the summary of store buffering, where every execution is allowed
pub sb_relaxed : Text (record {
  name = codes "SB";
  kind = Exists;
  formula = conjunction (equals (Reg 0 (codes "r0")) 0) (equals (Reg 1 (codes "r0")) 0);
  places = Reg 0 (codes "r0") ∷ Reg 1 (codes "r0") ∷ [];
  positive = 1;
  negative = 3;
  states = (0 ∷ 0 ∷ []) ∷ (0 ∷ 1 ∷ []) ∷ (1 ∷ 0 ∷ []) ∷ (1 ∷ 1 ∷ []) ∷ [];
  flags = [];
}) ≡ codes "Test SB Allowed\nStates 4\n0:r0=0; 1:r0=0;\n0:r0=0; 1:r0=1;\n0:r0=1; 1:r0=0;\n0:r0=1; 1:r0=1;\nOk\nWitnesses\nPositive: 1 Negative: 3\nCondition exists (0:r0=0 /\\ 1:r0=0)\nObservation SB Sometimes 1 3\n"
sb_relaxed = rw (zero_text, one_text, decimal_digit 3 (lit< tt), decimal_digit 4 (lit< tt)) refl

-- a summary of no execution, with a flag
pub none_allowed : Text (record { name = codes "N"; kind = Forall; formula = truth; places = []; positive = 0; negative = 0; states = []; flags = codes "race" ∷ [] })
    ≡ codes "Test N Required\nStates 0\nOk\nWitnesses\nPositive: 0 Negative: 0\nFlag race\nCondition forall (true)\nObservation N Never 0 0\n"
none_allowed = rw zero_text refl
