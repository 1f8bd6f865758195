-- The place of a refusal: the first in reading order at which the text breaks the rule that it tells (docs/LITMUS.md, "Refusals").
use Rattle.std.specs.Prelude.{◌≡◌, ℕ, ◌+◌, List, length, Option, Some}
use Rattle.std.specs.List.{count_by, position}
use Rattle.places.specs.Fronts.{IsFaultAt}
use Rattle.wb_text.specs.Tokens.{IsTokenList}
use Rattle.wb_text.specs.declared.token.Dialect.TheVariants.{Litmus}
use Rattle.wb_text.specs.declared.token.Token.{Token}
use Rattle.litmus_c.specs.Reads.{StopsAt, offset_of}
use Rattle.litmus_c.specs.declared.fault.TestFault.{TestFault}
use Rattle.litmus_c.specs.declared.fault.TestFault.TheVariants.{Text, Syntax, BadOrder, UnknownName, PlainOnAtomic, AtomicOnPlain, Unsupported, TooDeep, TooManyThreads, TooManyLocations, TooManyEvents, TooManyValues, ValueTooBig, NoMemory}
use Rattle.litmus_syntax.specs.Symbols.{symbols_of}
use Rattle.litmus_syntax.specs.declared.symbol.Symbol.{Symbol}
use Rattle.litmus_syntax.specs.declared.syntax_fault.SyntaxFault.TheVariants as stops
use Rattle.test_places.specs.Accesses.{IsEventTooMany}
use Rattle.test_places.specs.Fronts.{IsFirstFront}
use Rattle.test_places.specs.Limits.{IsFirstOver, locations}
use Rattle.test_places.specs.Marks.{start, marks_from}
use Rattle.test_places.specs.Numbers.{numbers_of, values, greatest}
use Rattle.test_places.specs.Rules.{breaks, is_head}
use Rattle.test_places.specs.declared.mark.Mark.{Mark}
use Rattle.test_places.specs.declared.rules.Rule.{Rule}
use Rattle.test_places.specs.declared.rules.Rule.TheVariants.{Names, PlainAccess, AtomicAccess}

-- what each of the symbols does
abbrev pub marks_of : List Symbol → List Mark
marks_of ss = marks_from start ss

-- the first mark that breaks a rule
abbrev pub first_breach : Rule → List Symbol → Option ℕ
first_breach r ss = position (breaks r (marks_of ss)) (marks_of ss)

-- The symbol at which a fault stands, by its number. 17: where reading from the left stops; 13 and 18: the last of the shortest front that is refused so;
-- 14 to 16: the first name that breaks the rule; 19 and 20: the first with which there is one thread or one location too many;
-- 21: the first access with which there are more than 64 events; 22 and 23: the first number with which there are more than 16 values, or one above 2,147,483,647.
abbrev pub IsSymbol : List Symbol → TestFault → ℕ → Type 0
IsSymbol ss (Unsupported w) k = StopsAt ss k
IsSymbol ss BadOrder k = IsFirstFront ss stops.BadOrder (k + 1)
IsSymbol ss TooDeep k = IsFirstFront ss stops.TooDeep (k + 1)
IsSymbol ss UnknownName k = first_breach Names ss ≡ Some k
IsSymbol ss PlainOnAtomic k = first_breach PlainAccess ss ≡ Some k
IsSymbol ss AtomicOnPlain k = first_breach AtomicAccess ss ≡ Some k
IsSymbol ss TooManyThreads k = IsFirstOver (count_by is_head) 8 (marks_of ss) k
IsSymbol ss TooManyLocations k = IsFirstOver locations 8 (marks_of ss) k
IsSymbol ss TooManyEvents k = IsEventTooMany ss (marks_of ss) k
IsSymbol ss TooManyValues k = IsFirstOver values 16 (numbers_of (marks_of ss)) k
IsSymbol ss ValueTooBig k = IsFirstOver greatest 2147483647 (numbers_of (marks_of ss)) k
IsSymbol ss (Text f) k = ⊥
IsSymbol ss (Syntax n) k = ⊥
IsSymbol ss NoMemory k = ⊥

-- no symbol is the place
abbrev pub HasNoSymbol : List Symbol → TestFault → Type 0
HasNoSymbol ss e = (k : ℕ) → ¬ IsSymbol ss e k

-- the token of such a symbol begins at this offset
pub record IsAtToken (text : List ℕ) (fault : TestFault) (offset : ℕ) : Type 0 where
  pub tokens : List Token
  pub is_list : IsTokenList Litmus text tokens
  pub symbol : ℕ
  pub is_symbol : IsSymbol (symbols_of text tokens) fault symbol
  pub begins : offset ≡ offset_of tokens (length text) symbol

-- there is no such token
abbrev pub IsAtNoToken : List ℕ → TestFault → Type 0
IsAtNoToken text e = (offset : ℕ) → ¬ IsAtToken text e offset

-- Where a fault stands in a text.
abbrev pub IsPlace : List ℕ → TestFault → ℕ → Type 0
IsPlace text (Text f) offset = IsFaultAt Litmus text f offset
IsPlace text (Syntax n) offset = offset ≡ n
IsPlace text NoMemory offset = ⊥
IsPlace text e offset = IsAtToken text e offset

-- The text has no place for the fault.
abbrev pub HasNoPlace : List ℕ → TestFault → Type 0
HasNoPlace text e = (offset : ℕ) → ¬ IsPlace text e offset
