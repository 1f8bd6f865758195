-- How far reading from the left comes before it meets a fault.
use Rattle.std.specs.Prelude.{◌≡◌, ◌<◌, ◌≤◌, ◌⊎◌, ℕ, List, length, take}
use Rattle.litmus_syntax.specs.declared.symbol.Symbol.{Symbol}
use Rattle.litmus_syntax.specs.declared.syntax_fault.SyntaxFault.{SyntaxFault}
use Rattle.litmus_syntax.specs.declared.syntax_fault.SyntaxFault.TheVariants.{BadOrder, TooDeep}
use Rattle.litmus_syntax.specs.Unspelled.{IsUnspelled}

-- the faults of which reading tells no place
abbrev pub IsStop : SyntaxFault → Type 0
IsStop f = (f ≡ BadOrder) ⊎ (f ≡ TooDeep)

-- The first n symbols are the shortest front of which reading tells this fault: it stands at the last of them.
pub record IsFirstFront (ss : List Symbol) (f : SyntaxFault) (n : ℕ) : Type 0 where
  pub within : n ≤ length ss
  pub has : IsUnspelled (take n ss) f
  pub first : (m : ℕ) → m < n → ¬ IsUnspelled (take m ss) f
