-- The text of a formula, as it is written along its chain.
use Rattle.std.proofs.Common.{◌≡◌, ◌∙◌, ◌++◌, ℕ, List, [], ◌∷◌, map, ap, refl, sym, ◌≤◌, ◌<◌, ◌-◌, ◌+◌, zero, suc, take, drop, length, arith, add-one}
use Rattle.std.specs.Prelude.{get_or, codes, Bool, ◌||◌}
use Rattle.std.proofs.lemmas.List.{append_assoc, append-nil}
use Rattle.conditions.specs.declared.prop.Atom.{Atom}
use Rattle.conditions.specs.declared.prop.Atom.TheVariants.{True, False, Equals}
use Rattle.conditions.specs.declared.prop.Connective.{Connective}
use Rattle.conditions.specs.declared.prop.Connective.TheVariants.{And, Or, Implies}
use Rattle.conditions.specs.declared.prop.Link.{Link}
use Rattle.conditions.specs.Conditions.{Formula, truth, falsehood, equals, negation, conjunction, disjunction, implication, Growth, denies, joins, grown, along, atomic, growth_of}
use Rattle.report.specs.declared.propositions.Root.{Root}
use Rattle.report.specs.declared.propositions.Root.TheVariants.{Simple}
use Rattle.report.specs.Texts as texts
use Rattle.report.specs.Texts.{opening, closing, operand, formula_text}
use Rattle.report.specs.Chains.{root, root_by, root_after, is_simple, is_bare_left, is_bare_right, sign, front, back, fronts, backs}

-- the roots of operands decide which stand bare

simple_is : (a : Formula) → texts.is_simple a ≡ is_simple (root a)
simple_is truth = refl
simple_is falsehood = refl
simple_is (equals p v) = refl
simple_is (negation a) = refl
simple_is (conjunction a b) = refl
simple_is (disjunction a b) = refl
simple_is (implication a b) = refl

left_and : (a : Formula) → (texts.is_simple a || texts.is_conjunction a) ≡ is_bare_left And (root a)
left_and truth = refl
left_and falsehood = refl
left_and (equals p v) = refl
left_and (negation a) = refl
left_and (conjunction a b) = refl
left_and (disjunction a b) = refl
left_and (implication a b) = refl

left_or : (a : Formula) → (texts.is_simple a || texts.is_disjunction a) ≡ is_bare_left Or (root a)
left_or truth = refl
left_or falsehood = refl
left_or (equals p v) = refl
left_or (negation a) = refl
left_or (conjunction a b) = refl
left_or (disjunction a b) = refl
left_or (implication a b) = refl

right_implies : (a : Formula) → (texts.is_simple a || texts.is_implication a) ≡ is_bare_right Implies (root a)
right_implies truth = refl
right_implies falsehood = refl
right_implies (equals p v) = refl
right_implies (negation a) = refl
right_implies (conjunction a b) = refl
right_implies (disjunction a b) = refl
right_implies (implication a b) = refl

-- what a link puts in front of a text, and what behind

grouped : (o t c s r : List ℕ) → o ++ t ++ c ++ s ++ r ≡ o ++ t ++ (c ++ s ++ r)
grouped o t c s r = ap (λ q. q ++ r) (append_assoc (o ++ t) c s) ∙ append_assoc (o ++ t) (c ++ s) r

-- both operands, each bare or not
infixed : (o : Connective) (a b : Formula) (left right : Bool) → left ≡ is_bare_left o (root a) → right ≡ is_bare_right o (root b) →
    operand left (formula_text a) ++ sign o ++ operand right (formula_text b) ≡ front (joins o b) (root a) ++ formula_text a ++ back (joins o b) (root a)
infixed o a b left right e f =
    ap (λ l. operand l (formula_text a) ++ sign o ++ operand right (formula_text b)) e ∙
    ap (λ r. operand (is_bare_left o (root a)) (formula_text a) ++ sign o ++ operand r (formula_text b)) f ∙
    grouped (opening (is_bare_left o (root a))) (formula_text a) (closing (is_bare_left o (root a))) (sign o) (operand (is_bare_right o (root b)) (formula_text b))

text_grown : (a : Formula) (s : Growth) → formula_text (grown a s) ≡ front s (root a) ++ formula_text a ++ back s (root a)
text_grown a denies = ap (λ b. codes "~" ++ operand b (formula_text a)) (simple_is a)
text_grown a (joins And b) = infixed And a b _ _ (left_and a) (simple_is b)
text_grown a (joins Or b) = infixed Or a b _ _ (left_or a) (simple_is b)
text_grown a (joins Implies b) = infixed Implies a b _ _ (simple_is a) (right_implies b)

root_grown : (a : Formula) (s : Growth) → root (grown a s) ≡ root_by s
root_grown a denies = refl
root_grown a (joins And b) = refl
root_grown a (joins Or b) = refl
root_grown a (joins Implies b) = refl

root_atom : (l : Atom) → root (atomic l) ≡ Simple
root_atom True = refl
root_atom False = refl
root_atom (Equals p v) = refl

root_along : (a : Formula) (ss : List Growth) → root (along a ss) ≡ root_after (root a) ss
root_along a [] = refl
root_along a (s ∷ ss) = root_along (grown a s) ss ∙ ap (λ r. root_after r ss) (root_grown a s)

regrouped : (ks ls ms ns os : List ℕ) → ks ++ (ls ++ ms ++ ns) ++ os ≡ ks ++ ls ++ ms ++ (ns ++ os)
regrouped [] [] ms ns os = append_assoc ms ns os
regrouped [] (l ∷ ls) ms ns os = ap (λ q. l ∷ q) (regrouped [] ls ms ns os)
regrouped (k ∷ ks) ls ms ns os = ap (λ q. k ∷ q) (regrouped ks ls ms ns os)

text_along : (a : Formula) (ss : List Growth) → formula_text (along a ss) ≡ fronts (root a) ss ++ formula_text a ++ backs (root a) ss
text_along a [] = sym (append-nil (formula_text a))
text_along a (s ∷ ss) =
    text_along (grown a s) ss ∙
    ap (λ r. fronts r ss ++ formula_text (grown a s) ++ backs r ss) (root_grown a s) ∙
    ap (λ t. fronts (root_by s) ss ++ t ++ backs (root_by s) ss) (text_grown a s) ∙
    regrouped (fronts (root_by s) ss) (front s (root a)) (formula_text a) (back s (root a)) (backs (root_by s) ss)

-- the text in three parts
pub text_is : (l : Atom) (ss : List Growth) → formula_text (along (atomic l) ss) ≡ fronts Simple ss ++ formula_text (atomic l) ++ backs Simple ss
text_is l ss = text_along (atomic l) ss ∙ ap (λ r. fronts r ss ++ formula_text (atomic l) ++ backs r ss) (root_atom l)

pub text_parts : (l : Atom) (ss : List Growth) → formula_text (along (atomic l) ss) ≡ fronts Simple ss ++ (formula_text (atomic l) ++ backs Simple ss)
text_parts l ss = text_is l ss ∙ append_assoc (fronts Simple ss) (formula_text (atomic l)) (backs Simple ss)

-- the roots along the links

take_whole : {X : Type 0} (n : ℕ) (xs : List X) → length xs ≤ n → take n xs ≡ xs
take_whole zero [] h = refl
take_whole zero (x ∷ xs) h = absurd (omega arith)
take_whole (suc n) [] h = refl
take_whole (suc n) (x ∷ xs) h = ap (λ l. x ∷ l) (take_whole n xs (omega arith))

pub root_of_all : (l : Atom) (xs : List Link) (n : ℕ) → length xs ≤ n → root_after Simple (map growth_of (take n xs)) ≡ root (along (atomic l) (map growth_of xs))
root_of_all l xs n h =
    ap (λ ys. root_after Simple (map growth_of ys)) (take_whole n xs h) ∙ sym (root_along (atomic l) (map growth_of xs) ∙ ap (λ r. root_after r (map growth_of xs)) (root_atom l))

root_nth : (r : Root) (xs : List Link) (j : ℕ) (x : Link) → j < length xs → root_by (growth_of (get_or xs j x)) ≡ root_after r (map growth_of (take (suc j) xs))
root_nth r [] j x h = absurd (omega arith)
root_nth r (y ∷ xs) zero x h = refl
root_nth r (y ∷ xs) (suc j) x h = root_nth (root_by (growth_of y)) xs j x (omega arith)

pub root_at : (xs : List Link) (i : ℕ) (x : Link) → 0 < i → i ≤ length xs → x ≡ get_or xs (i - 1) x → root_by (growth_of x) ≡ root_after Simple (map growth_of (take i xs))
root_at xs zero x p h e = absurd (omega arith)
root_at xs (suc j) x p h e =
    let m : suc j - 1 ≡ j = omega arith in
    ap (λ y. root_by (growth_of y)) (e ∙ ap (λ k. get_or xs k x) m) ∙ root_nth Simple xs j x (omega arith)

-- The loop from the back. What the links from i on put in front, with what stands before them.
abbrev pub fronts_from : Root → List Link → ℕ → List ℕ
fronts_from r xs i = fronts (root_after r (map growth_of (take i xs))) (map growth_of (drop i xs))

abbrev pub fronts_to : Root → List Link → ℕ → List ℕ
fronts_to r xs i = fronts r (map growth_of (take i xs))

-- what the link at j puts in front
abbrev pub front_at : Root → List Link → ℕ → Link → List ℕ
front_at r xs j x = front (growth_of x) (root_after r (map growth_of (take j xs)))

fronts_step : (r : Root) (xs : List Link) (j : ℕ) (x : Link) → j < length xs → fronts_from r xs j ≡ fronts_from r xs (suc j) ++ front_at r xs j (get_or xs j x)
fronts_step r [] j x h = absurd (omega arith)
fronts_step r (y ∷ xs) zero x h = refl
fronts_step r (y ∷ xs) (suc j) x h = fronts_step (root_by (growth_of y)) xs j x (omega arith)

fronts_split : (r : Root) (xs : List Link) (k : ℕ) → fronts r (map growth_of xs) ≡ fronts_from r xs k ++ fronts_to r xs k
fronts_split r [] zero = refl
fronts_split r [] (suc k) = refl
fronts_split r (y ∷ xs) zero = sym (append-nil (fronts r (map growth_of (y ∷ xs))))
fronts_split r (y ∷ xs) (suc k) =
    ap (λ l. l ++ front (growth_of y) r) (fronts_split (root_by (growth_of y)) xs k) ∙
    append_assoc (fronts_from (root_by (growth_of y)) xs k) (fronts_to (root_by (growth_of y)) xs k) (front (growth_of y) r)

pub fronts_more : (xs : List Link) (i : ℕ) (x : Link) → 0 < i → i ≤ length xs → x ≡ get_or xs (i - 1) x → fronts_from Simple xs (i - 1) ≡ fronts_from Simple xs i ++ front_at Simple xs (i - 1) x
fronts_more xs zero x p h e = absurd (omega arith)
fronts_more xs (suc j) x p h e =
    let m : suc j - 1 ≡ j = omega arith in
    let y : x ≡ get_or xs j x = e ∙ ap (λ k. get_or xs k x) m in
    rw m (fronts_step Simple xs j x (omega arith) ∙ ap (λ z. fronts_from Simple xs (suc j) ++ front_at Simple xs j z) (sym y))

pub fronts_rest : (xs : List Link) (i : ℕ) (x : Link) → 0 < i → i ≤ length xs → x ≡ get_or xs (i - 1) x →
    fronts Simple (map growth_of xs) ≡ fronts_from Simple xs i ++ (front_at Simple xs (i - 1) x ++ fronts_to Simple xs (i - 1))
fronts_rest xs i x p h e =
    fronts_split Simple xs (i - 1) ∙ ap (λ l. l ++ fronts_to Simple xs (i - 1)) (fronts_more xs i x p h e) ∙
    append_assoc (fronts_from Simple xs i) (front_at Simple xs (i - 1) x) (fronts_to Simple xs (i - 1))

-- The loop from the front.
abbrev pub backs_to : Root → List Link → ℕ → List ℕ
backs_to r xs i = backs r (map growth_of (take i xs))

abbrev pub backs_from : Root → List Link → ℕ → List ℕ
backs_from r xs i = backs (root_after r (map growth_of (take i xs))) (map growth_of (drop i xs))

abbrev pub back_at : Root → List Link → ℕ → Link → List ℕ
back_at r xs j x = back (growth_of x) (root_after r (map growth_of (take j xs)))

backs_step : (r : Root) (xs : List Link) (j : ℕ) (x : Link) → j < length xs → backs_to r xs (suc j) ≡ backs_to r xs j ++ back_at r xs j (get_or xs j x)
backs_step r [] j x h = absurd (omega arith)
backs_step r (y ∷ xs) zero x h = append-nil (back (growth_of y) r)
backs_step r (y ∷ xs) (suc j) x h =
    ap (λ l. back (growth_of y) r ++ l) (backs_step (root_by (growth_of y)) xs j x (omega arith)) ∙
    sym (append_assoc (back (growth_of y) r) (backs_to (root_by (growth_of y)) xs j) (back_at (root_by (growth_of y)) xs j (get_or xs j x)))

backs_split : (r : Root) (xs : List Link) (k : ℕ) → backs r (map growth_of xs) ≡ backs_to r xs k ++ backs_from r xs k
backs_split r [] zero = refl
backs_split r [] (suc k) = refl
backs_split r (y ∷ xs) zero = refl
backs_split r (y ∷ xs) (suc k) =
    ap (λ l. back (growth_of y) r ++ l) (backs_split (root_by (growth_of y)) xs k) ∙
    sym (append_assoc (back (growth_of y) r) (backs_to (root_by (growth_of y)) xs k) (backs_from (root_by (growth_of y)) xs k))

pub root_more : (xs : List Link) (i : ℕ) (x : Link) → i < length xs → x ≡ get_or xs i x → root_by (growth_of x) ≡ root_after Simple (map growth_of (take (i + 1) xs))
root_more xs i x h e = rw add-one (ap (λ y. root_by (growth_of y)) e ∙ root_nth Simple xs i x h)

pub backs_more : (xs : List Link) (i : ℕ) (x : Link) → i < length xs → x ≡ get_or xs i x → backs_to Simple xs (i + 1) ≡ backs_to Simple xs i ++ back_at Simple xs i x
backs_more xs i x h e = rw add-one (backs_step Simple xs i x h ∙ ap (λ y. backs_to Simple xs i ++ back_at Simple xs i y) (sym e))

pub backs_rest : (xs : List Link) (i : ℕ) (x : Link) → i < length xs → x ≡ get_or xs i x → backs Simple (map growth_of xs) ≡ backs_to Simple xs i ++ (back_at Simple xs i x ++ backs_from Simple xs (i + 1))
backs_rest xs i x h e =
    backs_split Simple xs (i + 1) ∙ ap (λ l. l ++ backs_from Simple xs (i + 1)) (backs_more xs i x h e) ∙
    append_assoc (backs_to Simple xs i) (back_at Simple xs i x) (backs_from Simple xs (i + 1))
