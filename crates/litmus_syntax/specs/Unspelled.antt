-- Why symbols spell no test.
use Rattle.std.specs.Prelude.{◌≡◌, ◌≤◌, ◌-◌, ℕ, List, length, take, Err}
use Rattle.std.proofs.Common.{suc}
use Rattle.litmus_syntax.specs.declared.symbol.Symbol.{Symbol}
use Rattle.litmus_syntax.specs.declared.syntax_fault.SyntaxFault.{SyntaxFault}
use Rattle.litmus_syntax.specs.declared.syntax_fault.SyntaxFault.TheVariants.{Syntax, BadOrder, TooDeep, NoMemory}
use Rattle.litmus_syntax.specs.Depth.{NestsTooDeep}
use Rattle.litmus_syntax.specs.Drafts.{Written}
use Rattle.litmus_syntax.specs.Grammar.{Spells}
use Rattle.litmus_syntax.specs.Misordered.{HasMisordered}
use Rattle.litmus_syntax.specs.Reading.{syntax, deep, misordered, test_at}

-- the grammar has no test of these symbols
abbrev pub SpellsNone : List Symbol → Type 0
SpellsNone ts = (w : Written) → ¬ Spells ts w

-- No test begins with the symbols before place k and the one at k. Where k is the end of the symbols, they alone are no test.
abbrev pub BeginsNone : List Symbol → ℕ → Type 0
BeginsNone ts k = (us : List Symbol) → take (suc k) us ≡ take (suc k) ts → SpellsNone us

-- Reading from the left, production by production (specs/Reading.antt), stops where n symbols are left: the productions
-- took those before, and none goes on with the next, or with the end. No test begins with those before and that one.
pub record IsStuck (ts : List Symbol) (n : ℕ) : Type 0 where
  pub within : n ≤ length ts
  pub stops : test_at 32 ts ≡ Err (syntax n)
  pub never : BeginsNone ts (length ts - n)

-- The cause of a refusal: there is no test; and reading from the left stops there, first comes to something that nests
-- more than 32 deep, or first comes to a call with an order that it does not take, where the refusal says so.
abbrev pub IsUnspelled : List Symbol → SyntaxFault → Type 0
IsUnspelled ts NoMemory = Unit {0}
IsUnspelled ts (Syntax n) = SpellsNone ts × IsStuck ts n
IsUnspelled ts TooDeep = SpellsNone ts × NestsTooDeep ts × (test_at 32 ts ≡ Err deep)
IsUnspelled ts BadOrder = SpellsNone ts × HasMisordered ts × (test_at 32 ts ≡ Err misordered)
