-- The first place at which a cat text is refused, for the refusals that tell none (docs/MODELS.md, "Refusals").
use Rattle.std.specs.Prelude.{◌≡◌, ◌≢◌, ◌+◌, ◌<◌, ◌≤◌, ℕ, List, Some, take, slice_get}
use Rattle.places.specs.Fronts.{IsFaultAt}
use Rattle.places.specs.Spellings.{spelling}
use Rattle.cat_syntax.specs.Reads.{IsRefused}
use Rattle.cat_syntax.specs.declared.fault.CatFault.{CatFault}
use Rattle.cat_syntax.specs.declared.fault.CatFault.TheVariants.{Text, Syntax, Unsupported, TooDeep, TooLarge, NoMemory}
use Rattle.wb_text.specs.Tokens.{IsTokenList}
use Rattle.wb_text.specs.declared.token.Dialect.TheVariants.{Cat}
use Rattle.wb_text.specs.declared.token.Token.{Token}

-- the faults that tell no place: 53, 54 and 55
pub data HasNoPlace : CatFault → Type 0 where
  leaves_out : {w : List ℕ} → HasNoPlace (Unsupported w)
  too_deep : HasNoPlace TooDeep
  too_large : HasNoPlace TooLarge

-- up to no token's end the text is refused for this fault
abbrev pub NoneRefused : List ℕ → List Token → CatFault → Type 0
NoneRefused text tokens fault = (j : ℕ) (t : Token) → slice_get tokens j ≡ Some t → ¬ IsRefused (take t.to text) fault

-- The text up to the end of token k is refused for this fault, and up to no earlier token's end.
pub record IsFirstRefused (text : List ℕ) (tokens : List Token) (fault : CatFault) (k : ℕ) : Type 0 where
  pub token : Token
  pub at : slice_get tokens k ≡ Some token
  pub refused : IsRefused (take token.to text) fault
  pub first : (j : ℕ) (t : Token) → j < k → slice_get tokens j ≡ Some t → ¬ IsRefused (take t.to text) fault

-- no token from place j up to place k is spelled as the word w
abbrev pub NoneSpelled : List ℕ → List Token → List ℕ → (j k : ℕ) → Type 0
NoneSpelled text tokens w j k = (i : ℕ) (t : Token) → j ≤ i → i ≤ k → slice_get tokens i ≡ Some t → spelling text t ≢ w

-- At this offset begins the last token up to place k that is spelled as the word w.
pub record IsLastSpelled (text : List ℕ) (tokens : List Token) (w : List ℕ) (k offset : ℕ) : Type 0 where
  pub place : ℕ
  pub within : place ≤ k
  pub token : Token
  pub at : slice_get tokens place ≡ Some token
  pub spelled : spelling text token ≡ w
  pub last : NoneSpelled text tokens w (place + 1) k
  pub begins : offset ≡ token.from

-- At this offset begins the token at place k, or of 53 the last up to it that is spelled as the word that the fault names.
abbrev pub IsToldAt : List ℕ → List Token → CatFault → ℕ → (offset : ℕ) → Type 0
IsToldAt text tokens (Unsupported w) k offset = IsLastSpelled text tokens w k offset
IsToldAt text tokens e k offset = (t : Token) × (slice_get tokens k ≡ Some t) × (offset ≡ t.from)

-- The fault stands at the last token of the shortest front that is refused for it, or of 53 at the word that it names there.
pub record IsAtFront (text : List ℕ) (fault : CatFault) (offset : ℕ) : Type 0 where
  pub tokens : List Token
  pub is_list : IsTokenList Cat text tokens
  pub place : ℕ
  pub first : IsFirstRefused text tokens fault place
  pub told : IsToldAt text tokens fault place offset

-- Where a fault stands in a cat text.
abbrev pub IsTextPlace : List ℕ → CatFault → (offset : ℕ) → Type 0
IsTextPlace text (Text f) offset = IsFaultAt Cat text f offset
IsTextPlace text (Syntax n) offset = offset ≡ n
IsTextPlace text (Unsupported w) offset = IsAtFront text (Unsupported w) offset
IsTextPlace text TooDeep offset = IsAtFront text TooDeep offset
IsTextPlace text TooLarge offset = IsAtFront text TooLarge offset
IsTextPlace text NoMemory offset = ⊥
