-- The printed summary of a verdict. (herd7 manual, the output of herd7; the order of lines, the spacing and the
-- sorting are this project's.)
use Rattle.std.specs.Prelude.{ℕ, List, [], ◌++◌, length, map, Bool, true, false, ◌||◌, if◌then◌else◌, codes, decimal}
use Rattle.std.specs.List.{flat_map, join_with_byte, zip}
use Rattle.litmus_tree.specs.Tree.{Word}
use Rattle.conditions.specs.Conditions.{Formula, truth, falsehood, equals, negation, conjunction, disjunction, implication}
use Rattle.conditions.specs.declared.condition.Kind.{Kind}
use Rattle.conditions.specs.declared.condition.Kind.TheVariants.{Exists, NotExists, Forall}
use Rattle.conditions.specs.declared.place.Place.{Place}
use Rattle.conditions.specs.declared.place.Place.TheVariants.{Reg, Loc}
use Rattle.slices.specs.Findings.{FindingValue, is_ok, word}

-- a register as `0:r0`
abbrev pub register_text : ℕ → Word → List ℕ
register_text thread name = decimal thread ++ codes ":" ++ name

-- a place as it stands in a condition: `0:r0` or `[x]`
abbrev pub place_text : Place → List ℕ
place_text (Reg thread name) = register_text thread name
place_text (Loc name) = codes "[" ++ name ++ codes "]"

-- `0:r0=1` or `[x]=1`
abbrev pub atom_text : Place → ℕ → List ℕ
atom_text place value = place_text place ++ codes "=" ++ decimal value

-- an atom or a negation
abbrev pub is_simple : Formula → Bool
is_simple truth = true
is_simple falsehood = true
is_simple (equals place value) = true
is_simple (negation a) = true
is_simple (conjunction a b) = false
is_simple (disjunction a b) = false
is_simple (implication a b) = false

abbrev pub is_conjunction : Formula → Bool
is_conjunction truth = false
is_conjunction falsehood = false
is_conjunction (equals place value) = false
is_conjunction (negation a) = false
is_conjunction (conjunction a b) = true
is_conjunction (disjunction a b) = false
is_conjunction (implication a b) = false

abbrev pub is_disjunction : Formula → Bool
is_disjunction truth = false
is_disjunction falsehood = false
is_disjunction (equals place value) = false
is_disjunction (negation a) = false
is_disjunction (conjunction a b) = false
is_disjunction (disjunction a b) = true
is_disjunction (implication a b) = false

abbrev pub is_implication : Formula → Bool
is_implication truth = false
is_implication falsehood = false
is_implication (equals place value) = false
is_implication (negation a) = false
is_implication (conjunction a b) = false
is_implication (disjunction a b) = false
is_implication (implication a b) = true

abbrev pub opening : Bool → List ℕ
opening bare = if bare then [] else codes "("

abbrev pub closing : Bool → List ℕ
closing bare = if bare then [] else codes ")"

-- the text of an operand, in parentheses unless it stands bare
abbrev pub operand : Bool → List ℕ → List ℕ
operand bare text = opening bare ++ text ++ closing bare

-- A proposition. An operand of a connective is in parentheses unless it is an atom, a negation, or has the same
-- connective and stands on the side to which that associates; `/\` and `\/` associate to the left, `=>` to the right.
-- The operand of `~` is in parentheses unless it is an atom or a negation.
abbrev pub formula_text : Formula → List ℕ
formula_text truth = codes "true"
formula_text falsehood = codes "false"
formula_text (equals place value) = atom_text place value
formula_text (negation a) = codes "~" ++ operand (is_simple a) (formula_text a)
formula_text (conjunction a b) = operand (is_simple a || is_conjunction a) (formula_text a) ++ codes " /\\ " ++ operand (is_simple b) (formula_text b)
formula_text (disjunction a b) = operand (is_simple a || is_disjunction a) (formula_text a) ++ codes " \\/ " ++ operand (is_simple b) (formula_text b)
formula_text (implication a b) = operand (is_simple a) (formula_text a) ++ codes " => " ++ operand (is_simple b || is_implication b) (formula_text b)

-- the kind of a test
abbrev pub kind_text : Kind → List ℕ
kind_text Exists = codes "Allowed"
kind_text NotExists = codes "Forbidden"
kind_text Forall = codes "Required"

abbrev pub quantifier_text : Kind → List ℕ
quantifier_text Exists = codes "exists"
quantifier_text NotExists = codes "~exists"
quantifier_text Forall = codes "forall"

-- a text on a line of its own
abbrev pub line : List ℕ → List ℕ
line text = text ++ codes "\n"

-- a place and its value in a state: `0:r0=1;`
abbrev pub binding_text : Place × ℕ → List ℕ
binding_text b = atom_text b.0 b.1 ++ codes ";"

-- the observed places with their values, parted by one space
abbrev pub state_line : List Place → List ℕ → List ℕ
state_line places values = line (join_with_byte 32 (map binding_text (zip places values)))

abbrev pub flag_line : Word → List ℕ
flag_line name = line (codes "Flag " ++ name)

abbrev pub name_line : FindingValue → List ℕ
name_line v = line (codes "Test " ++ v.name ++ codes " " ++ kind_text v.kind)

abbrev pub count_line : FindingValue → List ℕ
count_line v = line (codes "States " ++ decimal (length v.states))

abbrev pub state_lines : FindingValue → List ℕ
state_lines v = flat_map (state_line v.places) v.states

abbrev pub answer_line : FindingValue → List ℕ
answer_line v = line (if is_ok v then codes "Ok" else codes "No")

abbrev pub counts_line : FindingValue → List ℕ
counts_line v = line (codes "Positive: " ++ decimal v.positive ++ codes " Negative: " ++ decimal v.negative)

abbrev pub flag_lines : FindingValue → List ℕ
flag_lines v = flat_map flag_line v.flags

abbrev pub condition_line : FindingValue → List ℕ
condition_line v = line (codes "Condition " ++ quantifier_text v.kind ++ codes " (" ++ formula_text v.formula ++ codes ")")

abbrev pub observation_line : FindingValue → List ℕ
observation_line v = line (codes "Observation " ++ v.name ++ codes " " ++ word v ++ codes " " ++ decimal v.positive ++ codes " " ++ decimal v.negative)

-- The summary.
abbrev pub Text : FindingValue → List ℕ
Text v = name_line v ++ count_line v ++ state_lines v ++ answer_line v ++ line (codes "Witnesses") ++ counts_line v ++ flag_lines v ++ condition_line v ++ observation_line v
