-- The values of tests with one thread, which adds each of some numbers to x: atomic_fetch_add(x, c), one after another.
use Rattle.std.specs.Prelude.{◌≡◌, ℕ, List, [], ◌∷◌, map, length}
use Rattle.events.specs.declared.event.Order.TheVariants.{Sc}
use Rattle.litmus_tree.specs.declared.tree.Computation.TheVariants.{Addition}
use Rattle.litmus_tree.specs.Tree.{Word, Step, number, modify, computed, assign, perform, row, Program}
use Rattle.litmus_value.specs.Values.{sums, values_among}

abbrev pub x : Word
x = 120 ∷ []

abbrev pub r : Word
r = 114 ∷ []

abbrev pub adding : ℕ → Step
adding c = perform (modify x Addition c Sc)

abbrev pub program : List Step → List Program
program steps = record { parameters = []; steps = row steps; registers = r ∷ [] } ∷ []

-- each place of a list counts once
abbrev pub TwoSums : Type 0
TwoSums = sums (1 ∷ 1 ∷ []) ≡ 0 ∷ 1 ∷ 1 ∷ 2 ∷ []

-- two adds of 1 make 2 of 0, and 3 of 1
abbrev pub TwoAdds : Type 0
TwoAdds = values_among [] (program (map adding (1 ∷ 1 ∷ []))) ≡ 0 ∷ 1 ∷ 2 ∷ 3 ∷ []

abbrev pub NineValues : Type 0
NineValues = values_among [] (program (map adding (1 ∷ 2 ∷ 4 ∷ []))) ≡ 0 ∷ 1 ∷ 2 ∷ 3 ∷ 4 ∷ 5 ∷ 6 ∷ 7 ∷ 8 ∷ []

abbrev pub SeventeenValues : Type 0
SeventeenValues = length (values_among [] (program (map adding (1 ∷ 2 ∷ 4 ∷ 8 ∷ [])))) ≡ 17

-- the number that a call adds is no constant of its own, to which it could be added
abbrev pub AddAlone : Type 0
AddAlone = values_among [] (program (adding 5 ∷ [])) ≡ 0 ∷ 1 ∷ 5 ∷ 6 ∷ []

-- where it stands elsewhere too, it is one
abbrev pub AddBesideConstant : Type 0
AddBesideConstant = values_among [] (program (assign r (computed (number 5)) ∷ adding 5 ∷ [])) ≡ 0 ∷ 1 ∷ 5 ∷ 6 ∷ 10 ∷ []
