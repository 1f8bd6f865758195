-- Which test a text spells.
use Rattle.std.specs.Prelude.{◌≡◌, ◌≢◌, ℕ, ◌-◌, List, map, length, Option, Some, None, slice_index_or}
use Rattle.wb_text.specs.Faults.{HasCause}
use Rattle.wb_text.specs.Tokens.{IsTokenList}
use Rattle.wb_text.specs.declared.token.Dialect.TheVariants as dialects
use Rattle.wb_text.specs.declared.token.Token.{Token}
use Rattle.wb_text.specs.declared.fault.TextFault.{TextFault}
use Rattle.wb_text.specs.declared.fault.TextFault.TheVariants as text_faults
use Rattle.litmus_c.specs.declared.fault.TestFault.{TestFault}
use Rattle.litmus_c.specs.declared.fault.TestFault.TheVariants.{Text, Syntax, BadOrder, UnknownName, PlainOnAtomic, AtomicOnPlain, Unsupported, TooDeep, TooManyThreads, TooManyLocations, TooManyEvents, TooManyValues, ValueTooBig, NoMemory}
use Rattle.litmus_syntax.specs.Drafts.{Written}
use Rattle.litmus_syntax.specs.Grammar.{Spells}
use Rattle.litmus_c.specs.Rules.{litmus_of, KeepsRules, Explains}
use Rattle.litmus_syntax.specs.declared.symbol.Symbol.{Symbol}
use Rattle.litmus_syntax.specs.declared.symbol.Symbol.TheVariants.{Foreign, Other}
use Rattle.litmus_syntax.specs.Unspelled.{IsUnspelled}
use Rattle.litmus_syntax.specs.declared.syntax_fault.SyntaxFault.TheVariants as syntax_faults
use Rattle.litmus_syntax.specs.Symbols.{symbols_of}
use Rattle.litmus_tree.specs.Tree.{Word, Litmus}

-- The text has these tokens, and their symbols are the written test by the grammar.
pub record IsWrittenIn (text : List ℕ) (w : Written) : Type 0 where
  pub tokens : List Token
  pub is_list : IsTokenList dialects.Litmus text tokens
  pub spelled : Spells (symbols_of text tokens) w

-- The test is the one that the written test makes, and it keeps the rules and limits.
pub record Reads (text : List ℕ) (t : Litmus) : Type 0 where
  pub parts : Written
  pub is_written : IsWrittenIn text parts
  pub rules : KeepsRules parts.entries t
  pub made : t ≡ litmus_of parts

-- no test is written in the text
abbrev pub HasNoTest : List ℕ → Type 0
HasNoTest text = (w : Written) → ¬ IsWrittenIn text w

-- the word of a symbol that the language leaves out
abbrev pub left_out : Symbol → Option Word
left_out (Foreign w) = Some w
left_out s = None

-- at place k, if such a word stands there
abbrev pub left_out_at : List Symbol → ℕ → Option Word
left_out_at ts k = left_out (slice_index_or ts k Other)

-- where the token at place k begins, or the end of the text behind all tokens
abbrev pub offset_of : List Token → (end : ℕ) → ℕ → ℕ
offset_of tokens end k = slice_index_or (map (λ t. t.from) tokens) k end

-- Reading the symbols from the left stops at place k, the end of all symbols included.
pub record StopsAt (ts : List Symbol) (k : ℕ) : Type 0 where
  pub left : ℕ
  pub unspelled : IsUnspelled ts (syntax_faults.Syntax left)
  pub place : k ≡ length ts - left

-- It stops at the symbol of the token that begins at n, or at the end n, and no word that the language leaves out stands there.
pub record StopsAtOffset (ts : List Symbol) (tokens : List Token) (end n : ℕ) : Type 0 where
  pub place : ℕ
  pub stops : StopsAt ts place
  pub known : left_out_at ts place ≡ None
  pub offset : n ≡ offset_of tokens end place

-- It stops at the word w, which the language leaves out.
pub record StopsAtWord (ts : List Symbol) (w : Word) : Type 0 where
  pub place : ℕ
  pub stops : StopsAt ts place
  pub word : left_out_at ts place ≡ Some w

-- The symbols spell no test, and this refusal says why.
abbrev pub SpellNoTest : List Symbol → List Token → (end : ℕ) → TestFault → Type 0
SpellNoTest ts tokens end NoMemory = Unit {0}
SpellNoTest ts tokens end (Syntax n) = StopsAtOffset ts tokens end n
SpellNoTest ts tokens end BadOrder = IsUnspelled ts syntax_faults.BadOrder
SpellNoTest ts tokens end (Unsupported w) = StopsAtWord ts w
SpellNoTest ts tokens end TooDeep = IsUnspelled ts syntax_faults.TooDeep
SpellNoTest ts tokens end e = ⊥

-- no test is written in the text, since its symbols spell none, and this refusal says why
pub record IsNoTest (text : List ℕ) (e : TestFault) : Type 0 where
  pub none : HasNoTest text
  pub tokens : List Token
  pub is_list : IsTokenList dialects.Litmus text tokens
  pub cause : SpellNoTest (symbols_of text tokens) tokens (length text) e

-- a test is written in the text, and breaks a rule or a limit for which there is this refusal
abbrev pub BreaksRule : List ℕ → TestFault → Type 0
BreaksRule text e = (w : Written) × IsWrittenIn text w × Explains w.entries (litmus_of w) e

-- The cause of a refusal. Want of memory is one by itself, and none of the text.
abbrev pub IsRefused : List ℕ → TestFault → Type 0
IsRefused text NoMemory = Unit {0}
IsRefused text (Text f) = (f ≢ text_faults.NoMemory) × HasCause dialects.Litmus text f
IsRefused text (Syntax n) = IsNoTest text (Syntax n)
IsRefused text TooDeep = IsNoTest text TooDeep
IsRefused text BadOrder = IsNoTest text BadOrder
IsRefused text (Unsupported w) = IsNoTest text (Unsupported w)
IsRefused text UnknownName = BreaksRule text UnknownName
IsRefused text PlainOnAtomic = BreaksRule text PlainOnAtomic
IsRefused text AtomicOnPlain = BreaksRule text AtomicOnPlain
IsRefused text TooManyThreads = BreaksRule text TooManyThreads
IsRefused text TooManyLocations = BreaksRule text TooManyLocations
IsRefused text TooManyEvents = BreaksRule text TooManyEvents
IsRefused text TooManyValues = BreaksRule text TooManyValues
IsRefused text ValueTooBig = BreaksRule text ValueTooBig

-- The same before the rules are tried.
abbrev pub IsUnwritten : List ℕ → TestFault → Type 0
IsUnwritten text NoMemory = Unit {0}
IsUnwritten text (Text f) = (f ≢ text_faults.NoMemory) × HasCause dialects.Litmus text f
IsUnwritten text (Syntax n) = IsNoTest text (Syntax n)
IsUnwritten text BadOrder = IsNoTest text BadOrder
IsUnwritten text (Unsupported w) = IsNoTest text (Unsupported w)
IsUnwritten text TooDeep = IsNoTest text TooDeep
IsUnwritten text e = ⊥

-- the refusal that a fault of the text is
abbrev pub text_refusal : TextFault → TestFault
text_refusal text_faults.NoMemory = NoMemory
text_refusal f = Text f
