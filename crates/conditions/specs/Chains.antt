-- Formulas along the chains that they lie in: what a link does, how a definition by recursion on formulas goes along a
-- chain, and that a formula has one chain.
use Rattle.std.specs.Prelude.{◌≡◌, ◌&&◌, ◌||◌, ◌++◌, not, Bool, true, false, List, [], ◌∷◌, refl}
use Rattle.std.proofs.Common.{◌∙◌, ap, sym, rules}
use Rattle.std.specs.Bool.{Decides, one_answer}
use Rattle.std.proofs.lemmas.List.{append_assoc, append-nil}
use Rattle.conditions.specs.contracts.prop.ConnectivePartialEq.TheImpl.{ghosts as connective_equality}
use Rattle.conditions.specs.declared.place.Place.{Place}
use Rattle.conditions.specs.declared.place.Binding.{Binding}
use Rattle.conditions.specs.declared.prop.Atom.{Atom}
use Rattle.conditions.specs.declared.prop.Atom.TheVariants.{True, False, Equals}
use Rattle.conditions.specs.declared.prop.Connective.{Connective}
use Rattle.conditions.specs.declared.prop.Connective.TheVariants.{And, Or, Implies}
use Rattle.conditions.specs.declared.prop.Prop.{Prop, fold-Prop, fold_out-Prop}
use Rattle.conditions.specs.declared.prop.Link.{Link-F, Join, fold-roll-Link}
use Rattle.conditions.specs.declared.prop.Link.TheVariants.{rolls-Join}
use Rattle.conditions.specs.Conditions.{Formula, truth, falsehood, equals, negation, conjunction, disjunction, implication, atomic, Growth, denies, joins, grown, along, link_layer, layer, growth_of, formula_of}
use Rattle.conditions.specs.Equality.{same_formula}
use Rattle.conditions.specs.Exact.{both, by_parts, formula_exact}
use Rattle.conditions.specs.States.{holds_in, mentioned}

formula_is : (p : Prop) → fold-Prop Growth Formula link_layer layer p ≡ formula_of p
formula_is p = fold_out-Prop Growth Formula link_layer layer p

-- what a link with a connective does
pub join_is : (o : Connective) (p : Prop) → growth_of (Join o p) ≡ joins o (formula_of p)
join_is o p = ap growth_of (sym (rolls-Join o p)) ∙ fold-roll-Link Growth Formula link_layer layer (Link-F.Join o p) ∙ ap (joins o) (formula_is p)

-- g, from x, link by link
abbrev pub run : {A : Type 0} → (A → Growth → A) → A → List Growth → A
run g x [] = x
run g x (s ∷ ss) = run g (g x s) ss

-- What each link makes of the value of the formula before it goes along the chain.
pub along_is : {A : Type 0} (f : Formula → A) (g : A → Growth → A) → ((a : Formula) (s : Growth) → f (grown a s) ≡ g (f a) s) → (a : Formula) (ss : List Growth) → f (along a ss) ≡ run g (f a) ss
along_is f g is a [] = refl
along_is f g is a (s ∷ ss) = along_is f g is (grown a s) ss ∙ ap (λ x. run g x ss) (is a s)

-- whether a formula holds, by whether the one before the link does
abbrev pub passed : List Binding → Bool → Growth → Bool
passed state held denies = not held
passed state held (joins And b) = held && holds_in state b
passed state held (joins Or b) = held || holds_in state b
passed state held (joins Implies b) = not held || holds_in state b

passes : (state : List Binding) (a : Formula) (s : Growth) → holds_in state (grown a s) ≡ passed state (holds_in state a) s
passes state a denies = refl
passes state a (joins And b) = refl
passes state a (joins Or b) = refl
passes state a (joins Implies b) = refl

pub holds_along : (state : List Binding) (a : Formula) (ss : List Growth) → holds_in state (along a ss) ≡ run (passed state) (holds_in state a) ss
holds_along state = along_is (holds_in state) (passed state) (passes state)

-- the places of a link's operand
abbrev pub mentioned_by : Growth → List Place
mentioned_by denies = []
mentioned_by (joins o b) = mentioned b

abbrev pub all_mentioned : List Growth → List Place
all_mentioned [] = []
all_mentioned (s ∷ ss) = mentioned_by s ++ all_mentioned ss

mentioned_grown : (a : Formula) (s : Growth) → mentioned (grown a s) ≡ mentioned a ++ mentioned_by s
mentioned_grown a denies = sym (append-nil (mentioned a))
mentioned_grown a (joins And b) = refl
mentioned_grown a (joins Or b) = refl
mentioned_grown a (joins Implies b) = refl

pub mentioned_along : (a : Formula) (ss : List Growth) → mentioned (along a ss) ≡ mentioned a ++ all_mentioned ss
mentioned_along a [] = sym (append-nil (mentioned a))
mentioned_along a (s ∷ ss) =
    mentioned_along (grown a s) ss ∙ ap (λ ps. ps ++ all_mentioned ss) (mentioned_grown a s) ∙ append_assoc (mentioned a) (mentioned_by s) (all_mentioned ss)

-- the tests of equality of what links do

abbrev pub same_growth : Growth → Growth → Bool
same_growth denies denies = true
same_growth (joins o a) (joins p b) = connective_equality.eq o p && same_formula a b
same_growth s t = false

abbrev pub same_growths : List Growth → List Growth → Bool
same_growths [] [] = true
same_growths (s ∷ ss) (t ∷ ts) = same_growth s t && same_growths ss ts
same_growths ss ts = false

connective_exact : (a b : Connective) → Decides (connective_equality.eq a b) (a ≡ b)
connective_exact a b = search rules

growth_exact : (s t : Growth) → Decides (same_growth s t) (s ≡ t)
growth_exact denies denies = (λ h. refl, λ e. refl)
growth_exact (joins o a) (joins p b) = by_parts _ (both _ _ (connective_exact o p) (formula_exact a b)) (λ h. let k = h.0 in let n = h.1 in cc) (λ h. ((let t : o ≡ p = cc in t), (let t : a ≡ b = cc in t)))
growth_exact s t = (λ h. cc, λ e. cc)

growths_exact : (ss ts : List Growth) → Decides (same_growths ss ts) (ss ≡ ts)
growths_exact [] [] = (λ h. refl, λ e. refl)
growths_exact (s ∷ ss) (t ∷ ts) = by_parts _ (both _ _ (growth_exact s t) (growths_exact ss ts)) (λ h. let k = h.0 in let n = h.1 in cc) (λ h. ((let u : s ≡ t = cc in u), (let u : ss ≡ ts = cc in u)))
growths_exact ss ts = (λ h. cc, λ e. cc)

-- the atom on the far left of a formula, and what is done to it from there to the root
abbrev pub leftmost : Formula → Formula
leftmost truth = truth
leftmost falsehood = falsehood
leftmost (equals p v) = equals p v
leftmost (negation a) = leftmost a
leftmost (conjunction a b) = leftmost a
leftmost (disjunction a b) = leftmost a
leftmost (implication a b) = leftmost a

abbrev pub spine : Formula → List Growth
spine truth = []
spine falsehood = []
spine (equals p v) = []
spine (negation a) = spine a ++ denies ∷ []
spine (conjunction a b) = spine a ++ joins And b ∷ []
spine (disjunction a b) = spine a ++ joins Or b ∷ []
spine (implication a b) = spine a ++ joins Implies b ∷ []

leftmost_grown : (a : Formula) (s : Growth) → leftmost (grown a s) ≡ leftmost a
leftmost_grown a denies = refl
leftmost_grown a (joins And b) = refl
leftmost_grown a (joins Or b) = refl
leftmost_grown a (joins Implies b) = refl

leftmost_along : (a : Formula) (ss : List Growth) → leftmost (along a ss) ≡ leftmost a
leftmost_along a [] = refl
leftmost_along a (s ∷ ss) = leftmost_along (grown a s) ss ∙ leftmost_grown a s

spine_grown : (a : Formula) (s : Growth) → spine (grown a s) ≡ spine a ++ s ∷ []
spine_grown a denies = refl
spine_grown a (joins And b) = refl
spine_grown a (joins Or b) = refl
spine_grown a (joins Implies b) = refl

spine_along : (a : Formula) (ss : List Growth) → spine (along a ss) ≡ spine a ++ ss
spine_along a [] = sym (append-nil (spine a))
spine_along a (s ∷ ss) = spine_along (grown a s) ss ∙ ap (λ l. l ++ ss) (spine_grown a s) ∙ append_assoc (spine a) (s ∷ []) ss

leftmost_atom : (l : Atom) → leftmost (atomic l) ≡ atomic l
leftmost_atom True = refl
leftmost_atom False = refl
leftmost_atom (Equals p v) = refl

spine_atom : (l : Atom) → spine (atomic l) ≡ []
spine_atom True = refl
spine_atom False = refl
spine_atom (Equals p v) = refl

-- equal formulas have equal chains
pub one_chain : (l m : Atom) (ss ts : List Growth) → along (atomic l) ss ≡ along (atomic m) ts → (atomic l ≡ atomic m) × (ss ≡ ts)
one_chain l m ss ts e = (
  sym (leftmost_atom l) ∙ sym (leftmost_along (atomic l) ss) ∙ ap (λ t. leftmost t) e ∙ leftmost_along (atomic m) ts ∙ leftmost_atom m,
  ap (λ k. k ++ ss) (sym (spine_atom l)) ∙ sym (spine_along (atomic l) ss) ∙ ap (λ t. spine t) e ∙ spine_along (atomic m) ts ∙ ap (λ k. k ++ ts) (spine_atom m),
)

-- chains are compared as the formulas that they are
along_same : (l m : Atom) (ss ts : List Growth) → (same_formula (atomic l) (atomic m) && same_growths ss ts) ≡ same_formula (along (atomic l) ss) (along (atomic m) ts)
along_same l m ss ts =
    one_answer _ _
    (by_parts _ (both _ _ (formula_exact (atomic l) (atomic m)) (growths_exact ss ts)) (λ h. ap (λ a. along a ss) h.0 ∙ ap (along (atomic m)) h.1) (one_chain l m ss ts))
    (formula_exact (along (atomic l) ss) (along (atomic m) ts))

pub same_behind : (l m : Atom) (ss ts : List Growth) → same_formula (atomic l) (atomic m) ≡ true → same_growths ss ts ≡ same_formula (along (atomic l) ss) (along (atomic m) ts)
same_behind l m ss ts h = ap (λ b. b && same_growths ss ts) (sym h) ∙ along_same l m ss ts

pub differ_behind : (l m : Atom) (ss ts : List Growth) → same_formula (atomic l) (atomic m) ≡ false → false ≡ same_formula (along (atomic l) ss) (along (atomic m) ts)
differ_behind l m ss ts h = ap (λ b. b && same_growths ss ts) (sym h) ∙ along_same l m ss ts
