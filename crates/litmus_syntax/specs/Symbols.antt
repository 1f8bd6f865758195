-- The terminal symbols that the tokens of a text spell.
use Rattle.std.specs.Prelude.{ℕ, List, [], ◌∷◌, length, Bool, true, false, not, ◌&&◌, ◌||◌, ◌==◌, nat_lt, nat_le, Option, Some, None, if◌then◌else◌, codes, slice_index}
use Rattle.std.specs.List.{list_all, slice_range, starts_with}
use Rattle.std.specs.Str.{bytes_eq}
use Rattle.wb_text.specs.Bytes.{is_digit}
use Rattle.wb_text.specs.Numbers.{decimal_value}
use Rattle.wb_text.specs.declared.token.Token.{Token}
use Rattle.wb_text.specs.declared.token.TokenKind.{TokenKind}
use Rattle.wb_text.specs.declared.token.TokenKind.TheVariants as kinds
use Rattle.litmus_syntax.specs.declared.atomics.Operation.{Operation}
use Rattle.litmus_syntax.specs.declared.symbol.Symbol.{Symbol}
use Rattle.litmus_syntax.specs.declared.symbol.Symbol.TheVariants.{Fixed, Call, Name, Number, Word as head_word, Foreign, Other}
use Rattle.litmus_syntax.specs.declared.symbol.Terminal.{Terminal}
use Rattle.litmus_syntax.specs.declared.symbol.Terminal.TheVariants.{Int, AtomicInt, Volatile, If, Else, True, False, Exists, Forall, Not, Locations, LeftParen, RightParen, LeftBrace, RightBrace, LeftBracket, RightBracket, Semicolon, Colon, Comma, Assign, Star, Tilde, Bang, EqualEqual, BangEqual, AndAnd, OrOr, And, Or, Arrow}
use Rattle.litmus_syntax.specs.Atomics.{calls, orders}
use Rattle.litmus_tree.specs.Names.{is_one_of}
use Rattle.litmus_tree.specs.Tree.{Word}

-- what stands beside the first word of the table that is w
abbrev pub looked_up : {A : Type 0} → List (Word × A) → Word → Option A
looked_up [] w = None
looked_up (row ∷ rows) w = if bytes_eq w row.0 then Some row.1 else looked_up rows w

abbrev pub signs : List (Word × Terminal)
signs =
    (codes "(", LeftParen) ∷ (codes ")", RightParen) ∷ (codes "{", LeftBrace) ∷ (codes "}", RightBrace) ∷
    (codes "[", LeftBracket) ∷ (codes "]", RightBracket) ∷ (codes ";", Semicolon) ∷ (codes ":", Colon) ∷
    (codes ",", Comma) ∷ (codes "=", Assign) ∷ (codes "*", Star) ∷ (codes "~", Tilde) ∷ (codes "!", Bang) ∷
    (codes "==", EqualEqual) ∷ (codes "!=", BangEqual) ∷ (codes "&&", AndAnd) ∷ (codes "||", OrOr) ∷
    (codes "/\\", And) ∷ (codes "\\/", Or) ∷ (codes "=>", Arrow) ∷ []

abbrev pub words : List (Word × Terminal)
words =
    (codes "int", Int) ∷ (codes "atomic_int", AtomicInt) ∷ (codes "volatile", Volatile) ∷ (codes "if", If) ∷ (codes "else", Else) ∷
    (codes "true", True) ∷ (codes "false", False) ∷ (codes "exists", Exists) ∷ (codes "forall", Forall) ∷ (codes "not", Not) ∷
    (codes "locations", Locations) ∷ []

-- words of C and of the kernel that no test has
abbrev pub foreign_words : List Word
foreign_words =
    codes "while" ∷ codes "for" ∷ codes "do" ∷ codes "switch" ∷ codes "goto" ∷ codes "break" ∷ codes "continue" ∷ codes "return" ∷
    codes "filter" ∷ codes "READ_ONCE" ∷ codes "WRITE_ONCE" ∷ []

abbrev pub begins : Word → Word → Bool
begins w front = starts_with (λ a b. a == b) w front

abbrev pub is_none : {A : Type 0} → Option A → Bool
is_none None = true
is_none (Some x) = false

-- named as an order, and none of the five
abbrev pub is_foreign_order : Word → Bool
is_foreign_order w = begins w (codes "memory_order_") && is_none (looked_up orders w)

-- named as a call of C or of the kernel
abbrev pub is_foreign_call : Word → Bool
is_foreign_call w = begins w (codes "atomic_") || begins w (codes "smp_")

-- Whether the language leaves a word out, that is no call of its own. called: an opening parenthesis stands behind it.
abbrev pub is_foreign : Bool → Word → Bool
is_foreign called w = is_one_of foreign_words w || is_foreign_order w || (called && is_foreign_call w)

-- 1 to 64 printable bytes
abbrev pub is_name : Word → Bool
is_name w = nat_lt 0 (length w) && nat_le (length w) 64 && list_all (λ b. nat_le 33 b && nat_le b 126) w

-- a name, as a symbol made by the given constructor
abbrev pub named_symbol : (Word → Symbol) → Word → Symbol
named_symbol make w = if is_name w then make w else Other

abbrev pub fixed_or : Option Terminal → Symbol → Symbol
fixed_or None s = s
fixed_or (Some t) s = Fixed t

abbrev pub call_or : Option Operation → Symbol → Symbol
call_or None s = s
call_or (Some c) s = Call c

abbrev pub name_symbol : Bool → Word → Symbol
name_symbol called w = if is_foreign called w then named_symbol Foreign w else fixed_or (looked_up words w) (named_symbol Name w)

abbrev pub word_symbol : Bool → Word → Symbol
word_symbol called w = call_or (looked_up calls w) (name_symbol called w)

-- digits after a zero
abbrev pub has_leading_zero : Word → Bool
has_leading_zero w = nat_lt 1 (length w) && (slice_index w 0 == 48)

-- decimal digits without a leading zero, of at most 2,147,483,647
abbrev pub is_number : Word → Bool
is_number w = not (has_leading_zero w) && nat_lt 0 (length w) && list_all is_digit w && nat_le (decimal_value w) 2147483647

abbrev pub number_symbol : Word → Symbol
number_symbol w = if is_number w then Number (decimal_value w) else Other

-- by the kind of the token, what stands behind it, and its bytes
abbrev pub symbol_by : TokenKind → Bool → Word → Symbol
symbol_by kinds.Word called w = named_symbol head_word w
symbol_by kinds.Name called w = word_symbol called w
symbol_by kinds.Number called w = number_symbol w
symbol_by kinds.Quoted called w = Other
symbol_by kinds.Sign called w = fixed_or (looked_up signs w) Other

-- the bytes of a token
abbrev pub spelling : List ℕ → Token → Word
spelling text t = slice_range text t.from t.to

-- an opening parenthesis stands first
abbrev pub is_opened : List ℕ → List Token → Bool
is_opened text [] = false
is_opened text (t ∷ ts) = bytes_eq (spelling text t) (codes "(")

abbrev pub symbols_of : List ℕ → List Token → List Symbol
symbols_of text [] = []
symbols_of text (t ∷ ts) = symbol_by t.kind (is_opened text ts) (spelling text t) ∷ symbols_of text ts
