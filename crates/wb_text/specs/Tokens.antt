-- Token lists of a text: the longest token each time, as in ISO/IEC 9899:2011, 6.4. The head of a test by the herd7 manual, litmus tests.
use Rattle.std.specs.Prelude.{◌≡◌, ◌≢◌, ℕ, ◌+◌, ◌-◌, ◌<◌, ◌≤◌, true, false, ◌==◌, not, List, [], ◌∷◌, ◌++◌, length, take, drop, slice_index, codes, All}
use Rattle.std.specs.Str.{byte}
use Rattle.std.specs.List.{AllPass, Contains}
use Rattle.wb_text.specs.declared.token.Dialect.{Dialect}
use Rattle.wb_text.specs.declared.token.Dialect.TheVariants.{Litmus, Cat}
use Rattle.wb_text.specs.declared.token.Token.{Token}
use Rattle.wb_text.specs.declared.token.TokenKind.{TokenKind}
use Rattle.wb_text.specs.declared.token.TokenKind.TheVariants.{Word, Name, Number, Quoted, Sign}
use Rattle.wb_text.specs.Bytes.{begins_blank, is_blank, is_name_start, is_name_part}
use Rattle.wb_text.specs.Gaps.{IsQuoted, IsComment, IsGap, opens_comment}
use Rattle.wb_text.specs.Numbers.{IsDecimal, decimal_value}
use Rattle.wb_text.specs.Signs.{signs}

-- a token that is a nonempty slice of a text of this length
pub record IsWithin (len : ℕ) (t : Token) : Type 0 where
  pub nonempty : t.from < t.to
  pub inside : t.to ≤ len

-- what a token of each kind is made of
abbrev pub Spells : Dialect → TokenKind → List ℕ → Type 0
Spells d Word bytes = (0 < length bytes) × AllPass (λ b. not (is_blank b)) bytes
Spells d Name bytes = (0 < length bytes) × (is_name_start (slice_index bytes 0) ≡ true) × AllPass (is_name_part d) bytes
Spells d Number bytes = IsDecimal bytes
Spells d Quoted bytes = (text : List ℕ) × (bytes ≡ 34 ∷ (text ++ 34 ∷ [])) × AllPass (λ b. not (b == 34)) text
Spells d Sign bytes = Contains (signs d) bytes

-- Of the slices from the start of text that are of this kind, the one of n bytes is the longest.
pub record IsLongest (d : Dialect) (kind : TokenKind) (text : List ℕ) (n : ℕ) : Type 0 where
  pub within : n ≤ length text
  pub spelled : Spells d kind (take n text)
  pub longest : (m : ℕ) → n < m → m ≤ length text → ¬ Spells d kind (take m text)

-- Text begins with a token of this kind and of n bytes.
pub record BeginsToken (d : Dialect) (kind : TokenKind) (text : List ℕ) (n : ℕ) : Type 0 where
  pub apart : opens_comment d text ≡ false
  pub slice : IsLongest d kind text n
  pub ascii : All (λ b. b ≤ 127) (take n text)
  pub small : kind ≡ Number → decimal_value (take n text) ≤ 2147483647

-- the token of n bytes before which `length text` bytes of a whole of `total` bytes are left
abbrev pub token_at : ℕ → TokenKind → List ℕ → ℕ → Token
token_at total kind text n = record { kind = kind; from = total - length text; to = total - length text + n }

-- From text up to rest stand these tokens, with blanks and comments before them.
pub data HasTokens (d : Dialect) (total : ℕ) : List ℕ → List Token → List ℕ → Type 0 where
  no_token : {rest : List ℕ} → HasTokens d total rest [] rest
  token : {text start rest : List ℕ} {n : ℕ} {kind : TokenKind} {ts : List Token} →
      IsGap d text start → kind ≢ Word → BeginsToken d kind start n → HasTokens d total (drop n start) ts rest →
      HasTokens d total text (token_at total kind start n ∷ ts) rest

-- blanks and comments without a line feed
pub record IsSameLine (text rest : List ℕ) : Type 0 where
  pub gap : IsGap Litmus text rest
  pub passed : List ℕ
  pub split : text ≡ passed ++ rest
  pub no_feed : AllPass (λ b. not (b == 10)) passed

-- a run of bytes that are no blanks begins, and no comment
pub record BeginsRun (text : List ℕ) : Type 0 where
  pub byte : 0 < length text
  pub no_blank : begins_blank text ≡ false
  pub no_comment : opens_comment Litmus text ≡ false

-- Information, or a part of it: no `{` stands outside its comments and quoted texts.
pub data IsInformation : List ℕ → List ℕ → Type 0 where
  nothing : {rest : List ℕ} → IsInformation rest rest
  commented : {text behind rest : List ℕ} → IsComment Litmus text behind → IsInformation behind rest → IsInformation text rest
  quoted : {text inside behind rest : List ℕ} → text ≡ codes "\"" ++ inside → IsQuoted inside behind → IsInformation behind rest → IsInformation text rest
  plain : {text rest : List ℕ} → 0 < length text → slice_index text 0 ≢ byte "{" → slice_index text 0 ≢ byte "\"" → opens_comment Litmus text ≡ false → IsInformation (drop 1 text) rest → IsInformation text rest

-- nothing is left, or a `{` and more
abbrev pub IsBody : List ℕ → Type 0
IsBody text = 0 < length text → slice_index text 0 ≡ byte "{"

-- Behind the language: the name on the same line, if there is one, and the information up to the body.
pub data IsTitle (total : ℕ) : List ℕ → List Token → List ℕ → Type 0 where
  named : {text name rest : List ℕ} {n : ℕ} →
      IsSameLine text name → BeginsToken Litmus Word name n → IsInformation (drop n name) rest → IsBody rest →
      IsTitle total text (token_at total Word name n ∷ []) rest
  nameless : {text rest : List ℕ} →
      ((name : List ℕ) → IsSameLine text name → ¬ BeginsRun name) → IsInformation text rest → IsBody rest →
      IsTitle total text [] rest

-- The head of a text of `total` bytes has these tokens, and rest follows.
pub data IsHead (total : ℕ) : Dialect → List ℕ → List Token → List ℕ → Type 0 where
  cat : {text : List ℕ} → IsHead total Cat text [] text
  empty : {text : List ℕ} → IsGap Litmus text [] → IsHead total Litmus text [] []
  words : {text language rest : List ℕ} {n : ℕ} {ts : List Token} →
      IsGap Litmus text language → BeginsToken Litmus Word language n → IsTitle total (drop n language) ts rest →
      IsHead total Litmus text (token_at total Word language n ∷ ts) rest

-- The text has these tokens: those of its head, and what follows, with blanks and comments up to the end.
pub record IsTokenList (dialect : Dialect) (text : List ℕ) (ts : List Token) : Type 0 where
  pub short : length text ≤ 65536
  pub words : List Token
  pub others : List Token
  pub body : List ℕ
  pub last : List ℕ
  pub parts : ts ≡ words ++ others
  pub head : IsHead (length text) dialect text words body
  pub tokens : HasTokens dialect (length text) body others last
  pub end : IsGap dialect last []
