-- What is left of a text is its end.
use Rattle.std.proofs.Common.{◌≡◌, ℕ, ◌+◌, ◌-◌, List, [], ◌++◌, length, take, drop, sym, refl, ap, ◌∙◌, arith, inl, inr, length-drop, take-append-drop}
use Rattle.std.proofs.lemmas.Bool.{cases_lt}
use Rattle.std.proofs.lemmas.List.{drop-drop, drop_all, take_all, append-nil}
use Rattle.wb_text.specs.declared.token.Dialect.{Dialect}
use Rattle.wb_text.specs.Gaps.{IsNested, closed, nested, other, IsBlock, block_closed, block_goes_on, IsComment, nesting, line, block, IsGap, none, blank, comment}
use Rattle.wb_text.specs.Tokens.{IsInformation, nothing, commented, quoted, plain}
use Rattle.wb_text.proofs.Quotes.{quoted_rest}

-- rest is the end of text
abbrev pub IsTail : List ℕ → List ℕ → Type 0
IsTail text rest = (k : ℕ) × (rest ≡ drop k text)

pub tail_trans : (a b c : List ℕ) → IsTail a b → IsTail b c → IsTail a c
tail_trans a b c p q = (p.0 + q.0, q.1 ∙ ap (drop q.0) p.1 ∙ drop-drop q.0 p.0 a)

pub nested_tail : {text rest : List ℕ} → IsNested text rest → IsTail text rest
nested_tail {text} {rest} (closed e) = (2, sym (ap (drop 2) e))
nested_tail {text} {rest} (nested {inside = i} {behind = b} e p q) = tail_trans text b rest (tail_trans text i b (2, sym (ap (drop 2) e)) (nested_tail p)) (nested_tail q)
nested_tail {text} {rest} (other l n m p) = tail_trans text (drop 1 text) rest (1, refl) (nested_tail p)

block_tail : {text rest : List ℕ} → IsBlock text rest → IsTail text rest
block_tail (block_closed e) = (2, sym (ap (drop 2) e))
block_tail {text} {rest} (block_goes_on l n p) = tail_trans text (drop 1 text) rest (1, refl) (block_tail p)

pub comment_tail : {d : Dialect} {text rest : List ℕ} → IsComment d text rest → IsTail text rest
comment_tail {text = t} {rest} (nesting {inside = i} e p) = tail_trans t i rest (2, sym (ap (drop 2) e)) (nested_tail p)
comment_tail {text = t} {rest} (line {inside = i} e p) = tail_trans t i rest (2, sym (ap (drop 2) e)) (_, p)
comment_tail {text = t} {rest} (block {inside = i} l e p) = tail_trans t i rest (2, sym (ap (drop 2) e)) (block_tail p)

pub gap_tail : {d : Dialect} {text rest : List ℕ} → IsGap d text rest → IsTail text rest
gap_tail none = (0, refl)
gap_tail {text = t} {rest} (blank n g) = tail_trans t (drop 1 t) rest (1, refl) (gap_tail g)
gap_tail {text = t} {rest} (comment {behind = b} c g) = tail_trans t b rest (comment_tail c) (gap_tail g)

-- a text is what was passed, and what is left
pub tail_split : (text rest : List ℕ) → IsTail text rest → text ≡ take (length text - length rest) text ++ rest
tail_split text rest p =
    let size : length rest ≡ length text - p.0 = ap length p.1 ∙ length-drop p.0 text in
    elim (cases_lt p.0 (length text)) [
      | inl inside ↦
          let at : length text - length rest ≡ p.0 = omega arith in
          rw (at, p.1) (sym (take-append-drop p.0 text))
      | inr past ↦
          let at : length text - length rest ≡ length text = omega arith in
          let none : rest ≡ [] = p.1 ∙ drop_all p.0 text past in
          rw (at, none) (sym (append-nil (take (length text) text) ∙ take_all (length text) text (omega arith)))
    ]

pub info_tail : {text rest : List ℕ} → IsInformation text rest → IsTail text rest
info_tail nothing = (0, refl)
info_tail {text = t} {rest} (commented {behind = b} c g) = tail_trans t b rest (comment_tail c) (info_tail g)
info_tail {text = t} {rest} (quoted {inside = i} {behind = b} e q g) = tail_trans t b rest (tail_trans t i b (1, sym (ap (drop 1) e)) (length q.inside + 1, quoted_rest q)) (info_tail g)
info_tail {text = t} {rest} (plain l n m o g) = tail_trans t (drop 1 t) rest (1, refl) (info_tail g)
