-- Which model a text spells, and why a text is refused. (herd7 manual, the cat language.)
use Rattle.std.specs.Prelude.{◌≡◌, ◌≢◌, ℕ, ◌<◌, ◌≤◌, List, [], ◌∷◌, Option, Some, None, length, drop}
use Rattle.wb_text.specs.Faults.{HasCause}
use Rattle.wb_text.specs.declared.fault.TextFault.TheVariants as texts
use Rattle.wb_text.specs.declared.token.Dialect.TheVariants.{Cat}
use Rattle.wb_text.specs.declared.token.Token.{Token}
use Rattle.wb_text.specs.Tokens.{IsTokenList}
use Rattle.cat_syntax.specs.declared.fault.CatFault.{CatFault}
use Rattle.cat_syntax.specs.declared.fault.CatFault.TheVariants.{Text, Syntax, Unsupported, TooDeep, TooLarge, NoMemory}
use Rattle.cat_syntax.specs.declared.symbol.Symbol.{Symbol}
use Rattle.cat_syntax.specs.declared.symbol.Symbol.TheVariants as symbols
use Rattle.cat_syntax.specs.declared.syntax_fault.SyntaxFault.{SyntaxFault}
use Rattle.cat_syntax.specs.declared.syntax_fault.SyntaxFault.TheVariants as faults
use Rattle.cat_syntax.specs.Items.{IsFile}
use Rattle.cat_syntax.specs.Nodes.{nodes}
use Rattle.cat_syntax.specs.Stops.{FaultAt, GrowsTooLarge}
use Rattle.cat_syntax.specs.Symbols.{symbols_of}
use Rattle.cat_tree.specs.Tree.{File}

-- The symbols of the text's tokens are the model by the grammar, and it has at most 4,096 nodes.
pub record Reads (text : List ℕ) (f : File) : Type 0 where
  pub tokens : List Token
  pub is_list : IsTokenList Cat text tokens
  pub spelled : IsFile (symbols_of text tokens) f
  pub at_most : nodes f ≤ 4096

-- the offset of the first of these tokens, or the text's end
abbrev pub offset_of : List Token → (end : ℕ) → ℕ
offset_of [] end = end
offset_of (t ∷ ts) end = t.from

-- The word that a 53 names, where a fault is about the first of these symbols: a word of herd7's language that this one leaves
-- out, or the name of a function that a `let rec` group binds.
abbrev pub left_out : SyntaxFault → List Symbol → Option (List ℕ)
left_out faults.Unexpected (symbols.Unsupported w ∷ rest) = Some w
left_out faults.RecursiveFunction (symbols.Name w ∷ rest) = Some w
left_out cause rest = None

-- the first of these symbols is what a 52 tells: a name that stands already, or what nothing takes and is no such word
abbrev pub IsWrong : SyntaxFault → List Symbol → Type 0
IsWrong faults.TooDeep rest = ⊥
IsWrong faults.NoMemory rest = ⊥
IsWrong cause rest = left_out cause rest ≡ None

-- what is reported of the first of these symbols, which nothing takes
abbrev pub IsUnexpected : SyntaxFault → CatFault → List Symbol → (offset : ℕ) → Type 0
IsUnexpected cause (Syntax n) rest offset = (left_out cause rest ≡ None) × (n ≡ offset)
IsUnexpected cause (Unsupported w) rest offset = left_out cause rest ≡ Some w
IsUnexpected cause NoMemory rest offset = Unit {0}
IsUnexpected cause e rest offset = ⊥

-- reading stops at a symbol that a 52 tells, and n is the offset of its token
pub record IsWrongAt (ss : List Symbol) (tokens : List Token) (end n : ℕ) : Type 0 where
  pub place : ℕ
  pub cause : SyntaxFault
  pub fault : FaultAt ss cause place
  pub wrong : IsWrong cause (drop place ss)
  pub reported : n ≡ offset_of (drop place tokens) end

-- reading stops at the word w, which is left out
pub record LeavesOut (ss : List Symbol) (w : List ℕ) : Type 0 where
  pub place : ℕ
  pub cause : SyntaxFault
  pub fault : FaultAt ss cause place
  pub word : left_out cause (drop place ss) ≡ Some w

-- what a refusal tells of the symbols of a text
abbrev pub Tells : CatFault → List Symbol → List Token → (end : ℕ) → Type 0
Tells (Text f) ss tokens end = ⊥
Tells (Syntax n) ss tokens end = IsWrongAt ss tokens end n
Tells (Unsupported w) ss tokens end = LeavesOut ss w
Tells TooDeep ss tokens end = (place : ℕ) × FaultAt ss faults.TooDeep place
Tells TooLarge ss tokens end = (4096 < length tokens) × GrowsTooLarge ss
Tells NoMemory ss tokens end = Unit {0}

-- the text has tokens, they are no model of at most 4,096 nodes, and of them the refusal tells
pub record SpellsNone (text : List ℕ) (e : CatFault) : Type 0 where
  pub tokens : List Token
  pub is_list : IsTokenList Cat text tokens
  pub none : (f : File) → ¬ Reads text f
  pub reported : Tells e (symbols_of text tokens) tokens (length text)

-- The cause of a refusal. Want of memory is one by itself, and none of the text.
abbrev pub IsRefused : List ℕ → CatFault → Type 0
IsRefused text NoMemory = Unit {0}
IsRefused text (Text f) = (f ≢ texts.NoMemory) × HasCause Cat text f
IsRefused text e = SpellsNone text e
