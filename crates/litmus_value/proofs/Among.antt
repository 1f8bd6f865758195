-- What is gathered of a test, and the values that its adds make of it.
use Rattle.std.proofs.Common.{◌≡◌, ℕ, List, [], ◌∷◌, map, subst, sym, ap, ◌∙◌, refl}
use Rattle.conditions.specs.declared.place.Binding.{Binding}
use Rattle.litmus_tree.specs.Tree.{Program}
use Rattle.litmus_value.specs.declared.values.ValuesFault.{ValuesFault}
use Rattle.litmus_value.specs.declared.values.ValuesFault.TheVariants.{TooMany, TooBig, NoMemory}
use Rattle.litmus_value.specs.Gathering.{Gathered, all_noted, IsFull}
use Rattle.litmus_value.specs.Values.{literal, constants_in, numerals_among, constants_among, adds_among, with_value, with_values, with_sums, values_among, Refuses}
use Rattle.litmus_value.proofs.Distinct.{with_append}
use Rattle.litmus_value.proofs.Noted.{noted_is, full_on}
use Rattle.litmus_value.proofs.Sums.{full_sums}

initial_is : (vs cs : List ℕ) (bindings : List Binding) → all_noted (vs, cs) (map (λ b. literal b.value) bindings) ≡ (with_values vs (map (λ b. b.value) bindings), cs)
initial_is vs cs [] = refl
initial_is vs cs (b ∷ bs) = initial_is (with_value vs b.value) cs bs

-- what is noted of a test
abbrev pub noted_of : List Binding → List Program → Gathered
noted_of initial threads = all_noted (all_noted (0 ∷ 1 ∷ [], []) (map (λ b. literal b.value) initial)) (numerals_among threads)

noted_of_is : (initial : List Binding) (threads : List Program) → noted_of initial threads ≡ (with_values (0 ∷ 1 ∷ []) (constants_among initial threads), adds_among threads)
noted_of_is initial threads =
    ap (λ g. all_noted g (numerals_among threads)) (initial_is (0 ∷ 1 ∷ []) [] initial)
    ∙ noted_is (with_values (0 ∷ 1 ∷ []) (map (λ b. b.value) initial), []) (numerals_among threads)
    ∙ ap (λ vs. (vs, adds_among threads)) (sym (with_append (0 ∷ 1 ∷ []) (map (λ b. b.value) initial) (constants_in (numerals_among threads))))

-- the values are what the adds that are noted make of the constants that are
pub summed : (initial : List Binding) (threads : List Program) (g : Gathered) → g ≡ noted_of initial threads → with_sums g.0 g.1 ≡ values_among initial threads
summed initial threads g e = ap (λ (h : Gathered). with_sums h.0 h.1) (e ∙ noted_of_is initial threads)

pub refuses_full : (vs : List ℕ) (e : ValuesFault) → IsFull vs e → Refuses vs e
refuses_full vs TooMany h = h
refuses_full vs TooBig h = absurd h
refuses_full vs NoMemory h = tt

-- Where a part is full, the test has too many values.

pub full_noted : (initial : List Binding) (threads : List Program) (g : Gathered) (e : ValuesFault) → g ≡ noted_of initial threads → IsFull g.0 e → Refuses (values_among initial threads) e
full_noted initial threads g e is h = refuses_full (values_among initial threads) e (subst (λ (vs : List ℕ). IsFull vs e) (summed initial threads g is) (full_sums g.0 g.1 e h))

pub full_initial : (initial : List Binding) (threads : List Program) (g : Gathered) (e : ValuesFault) → g ≡ all_noted (0 ∷ 1 ∷ [], []) (map (λ b. literal b.value) initial) → IsFull g.0 e → Refuses (values_among initial threads) e
full_initial initial threads g e is h = full_noted initial threads (all_noted g (numerals_among threads)) e (ap (λ k. all_noted k (numerals_among threads)) is) (full_on g (numerals_among threads) e h)
