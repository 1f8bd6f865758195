-- Numerals that are noted one after another.
use Rattle.std.proofs.Common.{◌≡◌, ℕ, suc, ◌≤◌, ◌<◌, List, [], ◌∷◌, ◌++◌, length, refl, sym, ◌∙◌, subst, arith, map, drop, get_or, drop-cons, add-one, ap, ◌+◌}
use Rattle.std.specs.List.{flat_map}
use Rattle.std.proofs.lemmas.List.{append_assoc, append-nil}
use Rattle.litmus_tree.specs.declared.tree.Statement.{Statement}
use Rattle.litmus_tree.specs.Tree.{step_of, steps_of}
use Rattle.litmus_value.specs.Gathering.{Gathered, noted, all_noted, IsFull}
use Rattle.litmus_value.specs.declared.values.ValuesFault.{ValuesFault}
use Rattle.litmus_value.specs.declared.values.ValuesFault.TheVariants.{TooMany, TooBig, NoMemory}
use Rattle.litmus_value.specs.Values.{Numeral, literal, addend, constants_in, adds_in, step_numerals, steps_numerals, with_values}
use Rattle.litmus_value.proofs.Distinct.{with_longer}

-- a list that has one as a part is full where that is
pub full_longer : (us vs : List ℕ) (e : ValuesFault) → length us ≤ length vs → IsFull us e → IsFull vs e
full_longer us vs TooMany l h = omega (arith, l, h)
full_longer us vs TooBig l h = h
full_longer us vs NoMemory l h = tt

noted_longer : (g : Gathered) (n : Numeral) → length g.0 ≤ length (noted g n).0
noted_longer g (literal k) = with_longer g.0 k
noted_longer g (addend c) = omega arith

-- further numerals only add values
pub longer : (g : Gathered) (ns : List Numeral) → length g.0 ≤ length (all_noted g ns).0
longer g [] = omega arith
longer g (n ∷ ns) = omega (arith, noted_longer g n, longer (noted g n) ns)

pub full_on : (g : Gathered) (ns : List Numeral) (e : ValuesFault) → IsFull g.0 e → IsFull (all_noted g ns).0 e
full_on g ns e h = full_longer g.0 (all_noted g ns).0 e (longer g ns) h

pub noted_append : (g : Gathered) (ns ms : List Numeral) → all_noted g (ns ++ ms) ≡ all_noted (all_noted g ns) ms
noted_append g [] ms = refl
noted_append g (n ∷ ns) ms = noted_append (noted g n) ns ms

-- what is noted in the end
pub noted_is : (g : Gathered) (ns : List Numeral) → all_noted g ns ≡ (with_values g.0 (constants_in ns), g.1 ++ adds_in ns)
noted_is g [] = ap (λ cs. (g.0, cs)) (sym (append-nil g.1))
noted_is g (literal k ∷ ns) = noted_is (noted g (literal k)) ns
noted_is g (addend c ∷ ns) = noted_is (noted g (addend c)) ns ∙ ap (λ cs. (with_values g.0 (constants_in ns), cs)) (append_assoc g.1 (c ∷ []) (adds_in ns))

-- One part more of what is left to note.
first : {A : Type 0} (a : A) (xs : List A) (i : ℕ) → i < length xs → a ≡ get_or xs i a → drop i xs ≡ a ∷ drop (i + 1) xs
first a xs i l e = rw add-one (drop-cons xs i a l ∙ ap (λ y. y ∷ drop (suc i) xs) (sym e))

pub next : {A : Type 0} (f : A → List Numeral) (a : A) (xs : List A) (i : ℕ) (g : Gathered) → i < length xs → a ≡ get_or xs i a → all_noted g (flat_map f (drop i xs)) ≡ all_noted (all_noted g (f a)) (flat_map f (drop (i + 1) xs))
next f a xs i g l e = ap (λ ys. all_noted g (flat_map f ys)) (first a xs i l e) ∙ noted_append g (f a) (flat_map f (drop (i + 1) xs))

pub next_of : {A B : Type 0} (f : B → List Numeral) (h : A → B) (a : A) (xs : List A) (i : ℕ) (g : Gathered) → i < length xs → a ≡ get_or xs i a → all_noted g (flat_map f (map h (drop i xs))) ≡ all_noted (all_noted g (f (h a))) (flat_map f (map h (drop (i + 1) xs)))
next_of f h a xs i g l e = ap (λ ys. all_noted g (flat_map f (map h ys))) (first a xs i l e) ∙ noted_append g (f (h a)) (flat_map f (map h (drop (i + 1) xs)))

pub next_with : {A : Type 0} (f : A → Numeral) (a : A) (xs : List A) (i : ℕ) (g : Gathered) → i < length xs → a ≡ get_or xs i a → all_noted g (map f (drop i xs)) ≡ all_noted (all_noted g (f a ∷ [])) (map f (drop (i + 1) xs))
next_with f a xs i g l e = ap (λ ys. all_noted g (map f ys)) (first a xs i l e)

pub next_steps : (a : Statement) (xs : List Statement) (i : ℕ) (g : Gathered) → i < length xs → a ≡ get_or xs i a → all_noted g (steps_numerals (steps_of (drop i xs))) ≡ all_noted (all_noted g (step_numerals (step_of a))) (steps_numerals (steps_of (drop (i + 1) xs)))
next_steps a xs i g l e = ap (λ ys. all_noted g (steps_numerals (steps_of ys))) (first a xs i l e) ∙ noted_append g (step_numerals (step_of a)) (steps_numerals (steps_of (drop (i + 1) xs)))

-- What is full at the part before is full at the whole: done, after the first part, and then rest is what all of it gives.
pub full_whole : (g whole : Gathered) (rest : List Numeral) (e : ValuesFault) → all_noted g rest ≡ whole → IsFull g.0 e → IsFull whole.0 e
full_whole g whole rest e is h = subst (λ (k : Gathered). IsFull k.0 e) is (full_on g rest e h)
