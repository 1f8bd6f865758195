-- How the numbers of a test are gathered, one after another. No promise rests on it.
use Rattle.std.specs.Prelude.{ℕ, ◌≤◌, ◌<◌, ◌^◌, List, [], ◌∷◌, ◌++◌, length, All}
use Rattle.litmus_value.specs.declared.values.ValuesFault.{ValuesFault}
use Rattle.litmus_value.specs.declared.values.ValuesFault.TheVariants.{TooMany, TooBig, NoMemory}
use Rattle.litmus_value.specs.declared.values.numbers.Numbers.{Numbers}
use Rattle.litmus_value.specs.Values.{Numeral, literal, addend, with_value}

-- constants where they first stand, and adds as they stand
abbrev pub Gathered : Type 0
Gathered = List ℕ × List ℕ

abbrev pub gathered : Numbers → Gathered
gathered n = (n.values.items, n.adds.items)

abbrev pub noted : Gathered → Numeral → Gathered
noted g (literal k) = (with_value g.0 k, g.1)
noted g (addend c) = (g.0, g.1 ++ c ∷ [])

abbrev pub all_noted : Gathered → List Numeral → Gathered
all_noted g [] = g
all_noted g (n ∷ ns) = all_noted (noted g n) ns

-- constants, no more than a test has
pub record AreFew (vs : List ℕ) : Type 0 where
  pub few : length vs ≤ 16
  pub narrow : All (λ v. v < 2 ^ 32) vs

-- why no list that vs is a part of could be made
abbrev pub IsFull : List ℕ → ValuesFault → Type 0
IsFull vs TooMany = 16 < length vs
IsFull vs TooBig = ⊥
IsFull vs NoMemory = Unit {0}
