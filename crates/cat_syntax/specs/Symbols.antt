-- The symbols of a text: what its tokens are in the grammar. (herd7 manual, the cat language: lexical conventions.)
use Rattle.std.specs.Prelude.{ℕ, ◌-◌, List, [], ◌∷◌, Bool, true, false, ◌&&◌, nat_le, Option, codes, length, if◌then◌else◌, slice_range, find, take, drop}
use Rattle.std.specs.List.{list_any, list_all}
use Rattle.std.specs.Str.{bytes_eq}
use Rattle.wb_text.specs.declared.token.Token.{Token}
use Rattle.wb_text.specs.declared.token.TokenKind.{TokenKind}
use Rattle.wb_text.specs.declared.token.TokenKind.TheVariants as kinds
use Rattle.descent.specs.Reading.{match_option}
use Rattle.cat_syntax.specs.declared.foreign.Foreign.{Foreign}
use Rattle.cat_syntax.specs.declared.foreign.Foreign.TheVariants as foreign
use Rattle.cat_syntax.specs.declared.symbol.Symbol.{Symbol}
use Rattle.cat_syntax.specs.declared.symbol.Symbol.TheVariants.{Fixed, Name, Quoted, Unsupported, Other}
use Rattle.cat_syntax.specs.declared.symbol.Terminal.{Terminal}
use Rattle.cat_syntax.specs.declared.symbol.Terminal.TheVariants.{Let, Rec, And, Acyclic, Irreflexive, Empty, As, Flag, Show, Unshow, Include, Domain, Range, Underscore, Zero, LeftParen, RightParen, LeftBracket, RightBracket, LeftBrace, RightBrace, Comma, Equals, Bar, Semicolon, Backslash, Ampersand, Star, Tilde, Plus, Question, Inverse}

-- a byte of 33 to 126
abbrev pub is_printable : ℕ → Bool
is_printable b = nat_le 33 b && nat_le b 126

-- 1 to 64 printable bytes
abbrev pub is_name : List ℕ → Bool
is_name x = nat_le 1 (length x) && nat_le (length x) 64 && list_all is_printable x

-- how a terminal is written
unfoldable pub spelling_of : Terminal → List ℕ
spelling_of Let = codes "let"
spelling_of Rec = codes "rec"
spelling_of And = codes "and"
spelling_of Acyclic = codes "acyclic"
spelling_of Irreflexive = codes "irreflexive"
spelling_of Empty = codes "empty"
spelling_of As = codes "as"
spelling_of Flag = codes "flag"
spelling_of Show = codes "show"
spelling_of Unshow = codes "unshow"
spelling_of Include = codes "include"
spelling_of Domain = codes "domain"
spelling_of Range = codes "range"
spelling_of Underscore = codes "_"
spelling_of Zero = codes "0"
spelling_of LeftParen = codes "("
spelling_of RightParen = codes ")"
spelling_of LeftBracket = codes "["
spelling_of RightBracket = codes "]"
spelling_of LeftBrace = codes "{"
spelling_of RightBrace = codes "}"
spelling_of Comma = codes ","
spelling_of Equals = codes "="
spelling_of Bar = codes "|"
spelling_of Semicolon = codes ";"
spelling_of Backslash = 92 ∷ []
spelling_of Ampersand = codes "&"
spelling_of Star = codes "*"
spelling_of Tilde = codes "~"
spelling_of Plus = codes "+"
spelling_of Question = codes "?"
spelling_of Inverse = codes "^-1"

abbrev pub terminals : List Terminal
terminals =
    Let ∷ Rec ∷ And ∷ Acyclic ∷ Irreflexive ∷ Empty ∷ As ∷ Flag ∷ Show ∷ Unshow ∷ Include ∷ Domain ∷ Range ∷ Underscore ∷ Zero ∷
    LeftParen ∷ RightParen ∷ LeftBracket ∷ RightBracket ∷ LeftBrace ∷ RightBrace ∷ Comma ∷ Equals ∷ Bar ∷ Semicolon ∷ Backslash ∷
    Ampersand ∷ Star ∷ Tilde ∷ Plus ∷ Question ∷ Inverse ∷ []

-- the terminal that is written so
unfoldable pub terminal_of : List ℕ → Option Terminal
terminal_of x = find (λ t. bytes_eq (spelling_of t) x) terminals

-- how a word or a sign of herd7's language that this one leaves out is written
unfoldable pub foreign_spelling : Foreign → List ℕ
foreign_spelling foreign.With = codes "with"
foreign_spelling foreign.From = codes "from"
foreign_spelling foreign.Procedure = codes "procedure"
foreign_spelling foreign.Call = codes "call"
foreign_spelling foreign.Match = codes "match"
foreign_spelling foreign.Enum = codes "enum"
foreign_spelling foreign.If = codes "if"
foreign_spelling foreign.Then = codes "then"
foreign_spelling foreign.Else = codes "else"
foreign_spelling foreign.End = codes "end"
foreign_spelling foreign.Fun = codes "fun"
foreign_spelling foreign.In = codes "in"
foreign_spelling foreign.Forall = codes "forall"
foreign_spelling foreign.Do = codes "do"
foreign_spelling foreign.Try = codes "try"
foreign_spelling foreign.Begin = codes "begin"
foreign_spelling foreign.Instructions = codes "instructions"
foreign_spelling foreign.Default = codes "default"
foreign_spelling foreign.UndefinedUnless = codes "undefined_unless"
foreign_spelling foreign.PlusPlus = codes "++"

abbrev pub foreigns : List Foreign
foreigns =
    foreign.With ∷ foreign.From ∷ foreign.Procedure ∷ foreign.Call ∷ foreign.Match ∷ foreign.Enum ∷ foreign.If ∷ foreign.Then ∷ foreign.Else ∷ foreign.End ∷ foreign.Fun ∷ foreign.In ∷ foreign.Forall ∷ foreign.Do ∷ foreign.Try ∷ foreign.Begin ∷ foreign.Instructions ∷ foreign.Default ∷ foreign.UndefinedUnless ∷ foreign.PlusPlus ∷ []

unfoldable pub is_left_out : List ℕ → Bool
is_left_out x = list_any (λ w. bytes_eq (foreign_spelling w) x) foreigns

-- the bytes of a token
abbrev pub bytes_of : List ℕ → Token → List ℕ
bytes_of text t = slice_range text t.from t.to

abbrev pub is_quoted : TokenKind → Bool
is_quoted kinds.Quoted = true
is_quoted k = false

abbrev pub is_named : TokenKind → Bool
is_named kinds.Name = true
is_named k = false

-- what stands between the quotes
abbrev pub inside : List ℕ → List ℕ
inside x = take (length x - 2) (drop 1 x)

-- A token that is no terminal. A word that is left out is unsupported; a name of more than 64 bytes and a number other than 0
-- are taken by no production.
abbrev pub free_symbol : (named : Bool) → List ℕ → Symbol
free_symbol named x = if is_name x then (if is_left_out x then Unsupported x else (if named then Name x else Other)) else Other

-- what a token is
abbrev pub symbol_of : List ℕ → Token → Symbol
symbol_of text t = if is_quoted t.kind then Quoted (inside (bytes_of text t)) else match_option (terminal_of (bytes_of text t)) (free_symbol (is_named t.kind) (bytes_of text t)) Fixed

-- the symbols of a text with these tokens
abbrev pub symbols_of : List ℕ → List Token → List Symbol
symbols_of text [] = []
symbols_of text (t ∷ ts) = symbol_of text t ∷ symbols_of text ts
