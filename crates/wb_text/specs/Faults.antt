-- Why a text is refused: what reading it from the left meets.
use Rattle.std.specs.Prelude.{◌≡◌, ◌≢◌, ℕ, ◌<◌, ◌≤◌, List, length, take, drop, slice_index}
use Rattle.wb_text.specs.declared.fault.TextFault.{TextFault}
use Rattle.wb_text.specs.declared.fault.TextFault.TheVariants.{NotAscii, BadByte, OpenComment, OpenString, NumberTooBig, TooLong, NoMemory}
use Rattle.wb_text.specs.declared.token.Dialect.{Dialect}
use Rattle.wb_text.specs.declared.token.Dialect.TheVariants.{Litmus}
use Rattle.wb_text.specs.declared.token.Token.{Token}
use Rattle.wb_text.specs.declared.token.TokenKind.{TokenKind}
use Rattle.wb_text.specs.declared.token.TokenKind.TheVariants.{Word, Number, Quoted}
use Rattle.wb_text.specs.Gaps.{IsGap, IsGapEnd, IsOpenComment, IsQuoted}
use Rattle.wb_text.specs.Numbers.{decimal_value}
use Rattle.wb_text.specs.Tokens.{Spells, IsLongest, BeginsToken, HasTokens, IsSameLine, BeginsRun, IsInformation, IsHead}

-- no token of a body begins here
abbrev pub NoToken : Dialect → List ℕ → Type 0
NoToken d text = (kind : TokenKind) (n : ℕ) → kind ≢ Word → ¬ BeginsToken d kind text n

-- a byte above 127
pub record BeginsNotAscii (text : List ℕ) : Type 0 where
  pub nonempty : 0 < length text
  pub above : 127 < slice_index text 0

-- a word or a quoted text, with a byte above 127
pub record IsNotAscii (d : Dialect) (kind : TokenKind) (text : List ℕ) : Type 0 where
  pub len : ℕ
  pub slice : IsLongest d kind text len
  pub place : ℕ
  pub inside : place < len
  pub above : 127 < slice_index text place

-- an ASCII byte with which no token of a body begins, and no quoted text that is never closed
pub record BeginsBadByte (d : Dialect) (text : List ℕ) : Type 0 where
  pub nonempty : 0 < length text
  pub ascii : slice_index text 0 ≤ 127
  pub no_quote : slice_index text 0 ≢ 34
  pub none : (kind : TokenKind) (n : ℕ) → kind ≢ Word → n ≤ length text → ¬ Spells d kind (take n text)

-- a double quote with none behind it
pub record IsOpenString (text : List ℕ) : Type 0 where
  pub nonempty : 0 < length text
  pub quote : slice_index text 0 ≡ 34
  pub unclosed : (rest : List ℕ) → ¬ IsQuoted (drop 1 text) rest

-- digits whose value is above 2,147,483,647
pub record BeginsBigNumber (d : Dialect) (text : List ℕ) : Type 0 where
  pub len : ℕ
  pub slice : IsLongest d Number text len
  pub big : 2147483647 < decimal_value (take len text)

-- a fault where a token of a body is to begin
pub data IsTokenFault (d : Dialect) (text : List ℕ) : TextFault → Type 0 where
  bad_text : BeginsNotAscii text → IsTokenFault d text NotAscii
  bad_quotation : IsNotAscii d Quoted text → IsTokenFault d text NotAscii
  bad_byte : BeginsBadByte d text → IsTokenFault d text BadByte
  unclosed_quotation : IsOpenString text → IsTokenFault d text OpenString
  big_number : BeginsBigNumber d text → IsTokenFault d text NumberTooBig

-- a fault in the information of a head
pub data IsInformationFault (text : List ℕ) : TextFault → Type 0 where
  unclosed_comment : IsOpenComment Litmus text → IsInformationFault text OpenComment
  unclosed_string : IsOpenString text → IsInformationFault text OpenString

-- a fault behind the language: at the name, or in the information behind it
pub data HasTitleFault (text : List ℕ) : TextFault → Type 0 where
  bad_name : {name : List ℕ} → IsSameLine text name → BeginsRun name → IsNotAscii Litmus Word name → HasTitleFault text NotAscii
  behind_name : {name rest : List ℕ} {n : ℕ} {fault : TextFault} →
      IsSameLine text name → BeginsToken Litmus Word name n → IsInformation (drop n name) rest → IsInformationFault rest fault → HasTitleFault text fault
  with_no_name : {rest : List ℕ} {fault : TextFault} →
      ((name : List ℕ) → IsSameLine text name → ¬ BeginsRun name) → IsInformation text rest → IsInformationFault rest fault → HasTitleFault text fault

-- a fault in the head of a test: in a comment before the language, at the language, or behind it
pub data HasHeadFault (text : List ℕ) : TextFault → Type 0 where
  before_language : {rest : List ℕ} → IsGap Litmus text rest → IsOpenComment Litmus rest → HasHeadFault text OpenComment
  bad_language : {language : List ℕ} → IsGap Litmus text language → BeginsRun language → IsNotAscii Litmus Word language → HasHeadFault text NotAscii
  behind_language : {language : List ℕ} {n : ℕ} {fault : TextFault} →
      IsGap Litmus text language → BeginsToken Litmus Word language n → HasTitleFault (drop n language) fault → HasHeadFault text fault

-- The cause of a fault: the text is too long, or the fault stands in the head, or behind the head and some tokens, in a
-- comment or where the next token is to begin. Memory may run out at any time.
pub data HasCause (d : Dialect) (text : List ℕ) : TextFault → Type 0 where
  out_of_memory : HasCause d text NoMemory
  too_long : 65536 < length text → HasCause d text TooLong
  in_head : {fault : TextFault} → d ≡ Litmus → HasHeadFault text fault → HasCause d text fault
  in_comment : {body last rest : List ℕ} {words others : List Token} →
      IsHead (length text) d text words body → HasTokens d (length text) body others last → IsGap d last rest → IsOpenComment d rest → HasCause d text OpenComment
  at_token : {body last rest : List ℕ} {words others : List Token} {fault : TextFault} →
      IsHead (length text) d text words body → HasTokens d (length text) body others last → IsGap d last rest → IsGapEnd d rest → IsTokenFault d rest fault → HasCause d text fault
