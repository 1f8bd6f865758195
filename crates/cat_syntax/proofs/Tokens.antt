-- The symbols of the tokens of a text.
use Rattle.std.proofs.Common.{◌≡◌, ℕ, suc, List, [], ◌∷◌, length, refl, ap}
use Rattle.wb_text.specs.declared.token.Token.{Token}
use Rattle.cat_syntax.specs.Symbols.{symbols_of}

pub symbols_length : (text : List ℕ) (ts : List Token) → length (symbols_of text ts) ≡ length ts
symbols_length text [] = refl
symbols_length text (t ∷ ts) = ap suc (symbols_length text ts)
