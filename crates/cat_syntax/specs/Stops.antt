-- Where reading symbols from the left stops. Each symbol before is taken by a production, and the one there by none (Reading.antt).
use Rattle.std.specs.Prelude.{◌≡◌, ℕ, ◌+◌, ◌<◌, ◌≤◌, List, ◌∷◌, length, Err, take, drop, if◌then◌else◌}
use Rattle.cat_syntax.specs.declared.counting.Context.TheVariants.{Naming}
use Rattle.cat_syntax.specs.declared.symbol.Symbol.{Symbol}
use Rattle.cat_syntax.specs.declared.syntax_fault.SyntaxFault.{SyntaxFault}
use Rattle.cat_syntax.specs.Counting.{announces_node, weight}
use Rattle.cat_syntax.specs.Reading.{file_at}

-- All symbols that begin as ss do, up to the one of this number and the two behind it, are refused there for this cause: so none are a model.
abbrev pub StopsAt : List Symbol → SyntaxFault → (place : ℕ) → Type 0
StopsAt ss cause place = (us : List Symbol) → take (place + 3) us ≡ take (place + 3) ss → (rest : List Symbol) × (file_at us ≡ Err (cause, rest)) × (length us ≡ place + length rest)

-- The first symbol of the 4,097th node is that of this number.
pub data IsExcess (ss : List Symbol) (place : ℕ) : Type 0 where
  excess_at : (counted : ℕ) (s : Symbol) (behind : List Symbol) → weight Naming 0 (take counted ss) ≤ 4096 → 4096 < weight Naming 0 (take (counted + 1) ss) →
      drop counted ss ≡ s ∷ behind → place ≡ (if announces_node s then counted + 1 else counted) → IsExcess ss place

-- Reading stops here for this cause, and no node too many begins before.
pub record FaultAt (ss : List Symbol) (cause : SyntaxFault) (place : ℕ) : Type 0 where
  pub stops : StopsAt ss cause place
  pub within : (n : ℕ) → IsExcess ss n → place ≤ n

-- There is a node too many, and reading stops nowhere before its first symbol, nor there.
pub record GrowsTooLarge (ss : List Symbol) : Type 0 where
  pub place : ℕ
  pub excess : IsExcess ss place
  pub first : (cause : SyntaxFault) (k : ℕ) → StopsAt ss cause k → place < k
