-- Where a text that has no tokens is wrong: behind its longest front that has some. The numbers and names are those of docs/LITMUS.md, "Refusals".
use Rattle.std.specs.Prelude.{◌≡◌, ℕ, ◌+◌, ◌-◌, ◌<◌, ◌≤◌, ◌==◌, nat_lt, List, length, take, drop, slice_index, if◌then◌else◌}
use Rattle.std.specs.List.{position_or_len, suffix_len}
use Rattle.wb_text.specs.declared.fault.TextFault.{TextFault}
use Rattle.wb_text.specs.declared.fault.TextFault.TheVariants.{NotAscii, BadByte, OpenComment, OpenString, NumberTooBig, TooLong, NoMemory}
use Rattle.wb_text.specs.declared.token.Dialect.{Dialect}
use Rattle.wb_text.specs.declared.token.Token.{Token}
use Rattle.wb_text.specs.Bytes.{is_digit}
use Rattle.wb_text.specs.Tokens.{IsTokenList}

-- the first n bytes of a text have tokens
abbrev pub FrontHasTokens : Dialect → List ℕ → ℕ → Type 0
FrontHasTokens d text n = (ts : List Token) × IsTokenList d (take n text) ts

-- The first n bytes have tokens, and no longer front has.
pub record IsLongestFront (d : Dialect) (text : List ℕ) (n : ℕ) : Type 0 where
  pub within : n ≤ length text
  pub has : FrontHasTokens d text n
  pub longest : (m : ℕ) → n < m → m ≤ length text → ¬ FrontHasTokens d text m

-- The byte that a fault is about, where the longest front with tokens has n bytes: the first above 127 from there on; the one behind the front; the
-- first of a comment's `(*` or `/*`, of which the former's `(` is a token by itself, or of the digits that stand at the front's end.
abbrev pub faulty_byte : TextFault → List ℕ → ℕ → ℕ
faulty_byte NotAscii text n = n + position_or_len (λ b. nat_lt 127 b) (drop n text)
faulty_byte BadByte text n = n
faulty_byte OpenComment text n = if slice_index text n == 42 then n - 1 else n
faulty_byte OpenString text n = n
faulty_byte NumberTooBig text n = n - suffix_len is_digit (take n text)
faulty_byte TooLong text n = n
faulty_byte NoMemory text n = n

-- Where a text's fault stands. A text is too long from its byte 65,536 on, whatever stands before.
abbrev pub IsFaultAt : Dialect → List ℕ → TextFault → ℕ → Type 0
IsFaultAt d text TooLong at = at ≡ 65536
IsFaultAt d text fault at = (n : ℕ) × IsLongestFront d text n × (at ≡ faulty_byte fault text n)
