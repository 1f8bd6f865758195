-- Tokens by their bytes.
use Rattle.std.specs.Prelude.{ℕ, ◌==◌, List, Option}
use Rattle.std.specs.List.{find, slice_range}
use Rattle.std.specs.Str.{bytes_eq}
use Rattle.wb_text.specs.declared.token.Token.{Token}

-- the bytes of a token
abbrev pub spelling : List ℕ → Token → List ℕ
spelling text t = slice_range text t.from t.to

-- the first token that is spelled so
abbrev pub first_spelled : List ℕ → List Token → List ℕ → Option Token
first_spelled text tokens word = find (λ t. bytes_eq (spelling text t) word) tokens

-- the first token that begins at this offset
abbrev pub token_at : List Token → ℕ → Option Token
token_at tokens offset = find (λ t. t.from == offset) tokens
