-- The signs of the two languages, and which of them a text begins with. (ISO/IEC 9899:2011, 6.4.6; herd7 manual, litmus tests and the cat language.)
use Rattle.std.specs.Prelude.{ℕ, Bool, List, [], ◌∷◌, codes, nat_eq}
use Rattle.std.specs.List.{starts_with}
use Rattle.wb_text.specs.declared.token.Dialect.{Dialect}
use Rattle.wb_text.specs.declared.token.Dialect.TheVariants.{Litmus, Cat}

-- whether a text begins with a sign
abbrev pub begins_with : List ℕ → List ℕ → Bool
begins_with sign text = starts_with nat_eq text sign

-- punctuation and operators
abbrev pub signs : Dialect → List (List ℕ)
signs Litmus =
    codes "{" ∷ codes "}" ∷ codes "(" ∷ codes ")" ∷ codes "[" ∷ codes "]" ∷ codes ";" ∷ codes ":" ∷ codes "," ∷ codes "="
    ∷ codes "*" ∷ codes "~" ∷ codes "!" ∷ codes "==" ∷ codes "!=" ∷ codes "&&" ∷ codes "||" ∷ codes "/\\" ∷ codes "\\/"
    ∷ codes "=>" ∷ []
signs Cat =
    codes "(" ∷ codes ")" ∷ codes "[" ∷ codes "]" ∷ codes "{" ∷ codes "}" ∷ codes "," ∷ codes "=" ∷ codes "|" ∷ codes ";"
    ∷ codes "\\" ∷ codes "&" ∷ codes "*" ∷ codes "~" ∷ codes "+" ∷ codes "?" ∷ codes "^-1" ∷ codes "++" ∷ []
