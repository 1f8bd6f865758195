-- Blanks and comments. A relation `.. text rest` says what text begins with, and that rest follows. (ISO/IEC 9899:2011, 6.4.9, for `//` and
-- `/* */`; herd7 manual for `(* *)`, which nest as in OCaml.)
use Rattle.std.specs.Prelude.{◌≡◌, ℕ, ◌<◌, Bool, true, false, ◌||◌, ◌==◌, not, List, ◌∷◌, ◌++◌, length, drop, codes, refl}
use Rattle.std.specs.List.{AllPass, position_or_len}
use Rattle.wb_text.specs.declared.token.Dialect.{Dialect}
use Rattle.wb_text.specs.declared.token.Dialect.TheVariants.{Litmus, Cat}
use Rattle.wb_text.specs.Bytes.{begins_blank}
use Rattle.wb_text.specs.Signs.{begins_with}

-- behind a `(*`: the text goes on to the `*)` that closes it. Comments nest.
pub data IsNested : List ℕ → List ℕ → Type 0 where
  closed : {text rest : List ℕ} → text ≡ codes "*)" ++ rest → IsNested text rest
  nested : {text inside behind rest : List ℕ} → text ≡ codes "(*" ++ inside → IsNested inside behind → IsNested behind rest → IsNested text rest
  other : {text rest : List ℕ} → 0 < length text → begins_with (codes "(*") text ≡ false → begins_with (codes "*)") text ≡ false → IsNested (drop 1 text) rest → IsNested text rest

-- behind a `//`: the rest of the line
abbrev pub IsLine : List ℕ → List ℕ → Type 0
IsLine text rest = rest ≡ drop (position_or_len (λ b. b == 10) text) text

-- behind a `/*`: all up to the first `*/`. These do not nest.
pub data IsBlock : List ℕ → List ℕ → Type 0 where
  block_closed : {text rest : List ℕ} → text ≡ codes "*/" ++ rest → IsBlock text rest
  block_goes_on : {text rest : List ℕ} → 0 < length text → begins_with (codes "*/") text ≡ false → IsBlock (drop 1 text) rest → IsBlock text rest

-- behind a double quote: all up to the next one
pub record IsQuoted (text rest : List ℕ) : Type 0 where
  pub inside : List ℕ
  pub closed : text ≡ inside ++ 34 ∷ rest
  pub unbroken : AllPass (λ b. not (b == 34)) inside

-- a comment
pub data IsComment (d : Dialect) : List ℕ → List ℕ → Type 0 where
  nesting : {text inside rest : List ℕ} → text ≡ codes "(*" ++ inside → IsNested inside rest → IsComment d text rest
  line : {text inside rest : List ℕ} → text ≡ codes "//" ++ inside → IsLine inside rest → IsComment d text rest
  block : {text inside rest : List ℕ} → d ≡ Litmus → text ≡ codes "/*" ++ inside → IsBlock inside rest → IsComment d text rest

-- blanks and comments
pub data IsGap (d : Dialect) : List ℕ → List ℕ → Type 0 where
  none : {rest : List ℕ} → IsGap d rest rest
  blank : {text rest : List ℕ} → begins_blank text ≡ true → IsGap d (drop 1 text) rest → IsGap d text rest
  comment : {text behind rest : List ℕ} → IsComment d text behind → IsGap d behind rest → IsGap d text rest

-- whether a comment opens
abbrev pub opens_comment : Dialect → List ℕ → Bool
opens_comment Litmus text = begins_with (codes "(*") text || begins_with (codes "//") text || begins_with (codes "/*") text
opens_comment Cat text = begins_with (codes "(*") text || begins_with (codes "//") text

-- a comment opens that is never closed
pub record IsOpenComment (d : Dialect) (text : List ℕ) : Type 0 where
  pub opens : opens_comment d text ≡ true
  pub unclosed : (rest : List ℕ) → ¬ IsComment d text rest

-- neither a blank nor a comment stands here
pub record IsGapEnd (d : Dialect) (text : List ℕ) : Type 0 where
  pub no_blank : begins_blank text ≡ false
  pub no_comment : opens_comment d text ≡ false

-- a blank and a comment inside a comment
example : IsGap Litmus (codes " (*(**)*)x") (codes "x")
example = blank refl (comment (nesting {inside = codes "(**)*)x"} refl (nested {inside = codes "*)*)x"} {behind = codes "*)x"} refl (closed refl) (closed refl))) none)

-- a block comment ends at its first `*/`
block_example : IsComment Litmus (codes "/**/*/") (codes "*/")
block_example = block {inside = codes "*/*/"} refl refl (block_closed refl)
