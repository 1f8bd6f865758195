-- What it is that a reading function is sound.
use Rattle.std.proofs.Common.{◌≡◌, ℕ, suc, List}
use Rattle.std.specs.Prelude.{Ok}
use Rattle.litmus_syntax.specs.declared.symbol.Symbol.{Symbol}
use Rattle.litmus_syntax.specs.Reading.{Reading}

-- what r reads is so
abbrev pub Sound : {A : Type 0} → (List Symbol → Reading A) → (List Symbol → List Symbol → A → Type 0) → Type 0
Sound {A} r P = (ts rest : List Symbol) (a : A) → r ts ≡ Ok (a, rest) → P ts rest a

-- what nests one less than n deep
pub data Deeper {A : Type 0} (P : ℕ → List Symbol → List Symbol → A → Type 0) : ℕ → List Symbol → List Symbol → A → Type 0 where
  deeper : {n : ℕ} {ts rest : List Symbol} {a : A} → P n ts rest a → Deeper P (suc n) ts rest a
