-- Reading as functions on lists of tokens. T: the tokens; F: the causes for which there is no reading.
use Rattle.std.specs.Prelude.{ℕ, List, [], ◌∷◌, length, Option, Some, None, Result, Ok, Err}
use Rattle.std.proofs.Common.{zero, suc}

-- a value and the tokens behind it, or why there is none
abbrev pub Read : Type 0 → Type 0 → Type 0 → Type 0
Read T F A = Result (A × List T) F

-- a value and the tokens behind it, if it stands in front
abbrev pub Look : Type 0 → Type 0 → Type 0
Look T A = Option (A × List T)

abbrev pub match_option : {A B : Type 0} → Option A → B → (A → B) → B
match_option None d f = d
match_option (Some x) d f = f x

infixl 10 ◌>>=◌
abbrev pub ◌>>=◌ : {A B F : Type 0} → Result A F → (A → Result B F) → Result B F
(Ok x) >>= f = f x
(Err e) >>= f = Err e

-- what has to stand in front, else there is no reading, for this cause
abbrev pub required : {F A : Type 0} → F → Option A → Result A F
required c None = Err c
required c (Some x) = Ok x

-- Turns on a: as long as op looks at something, step goes on behind it. More than k are not read.
unfoldable pub turns : {T F O A : Type 0} → F → (List T → Look T O) → (O → A → List T → Read T F A) → ℕ → A → List T → Read T F A
turns c op step zero a ts = Err c
turns c op step (suc k) a ts = match_option (op ts) (Ok (a, ts)) (λ x. step x.0 a x.1 >>= λ y. turns c op step k y.0 y.1)

-- each turn takes a token, so there are no more turns than tokens
unfoldable pub repeated : {T F O A : Type 0} → F → (List T → Look T O) → (O → A → List T → Read T F A) → A → List T → Read T F A
repeated c op step a ts = turns c op step (suc (length ts)) a ts
