-- Comments end at one place, and gaps lead to one.
use Rattle.std.proofs.Common.{◌≡◌, ℕ, ◌-◌, ◌<◌, ◌≤◌, Bool, true, false, ◌⊎◌, inl, inr, List, [], ◌∷◌, ◌++◌, length, get_or, take, drop, sym, refl, ap, ◌∙◌, subst, arith, length-drop}
use Rattle.std.specs.Prelude.{◌||◌, codes, nat_eq}
use Rattle.std.specs.List.{position_or_len}
use Rattle.std.proofs.lemmas.List.{take_rest}
use Rattle.std.proofs.lemmas.Bool.{or_cases, false≢true}
use Rattle.wb_text.specs.declared.token.Dialect.{Dialect}
use Rattle.wb_text.specs.declared.token.Dialect.TheVariants.{Litmus, Cat}
use Rattle.wb_text.specs.Bytes.{begins_blank}
use Rattle.wb_text.specs.Signs.{begins_with}
use Rattle.wb_text.specs.Gaps.{IsNested, closed, nested, other, IsLine, IsBlock, block_closed, block_goes_on, IsComment, nesting, line, block, IsGap, none, blank, comment, opens_comment, IsOpenComment, IsGapEnd}
use Rattle.wb_text.proofs.Texts.{first, begins_true, begins_is, range_is}

-- two texts that are one begin with one byte
same_first : {a b : List ℕ} → a ≡ b → first a ≡ first b
same_first e = ap first e

same_second : {a b : List ℕ} → a ≡ b → get_or a 1 0 ≡ get_or b 1 0
same_second e = ap (λ l. get_or l 1 0) e

same_behind : {a b : List ℕ} → a ≡ b → drop 2 a ≡ drop 2 b
same_behind e = ap (drop 2) e

not_both : {b : Bool} → b ≡ true → b ≡ false → ⊥
not_both e f = false≢true (sym f ∙ e)

begins : (sign : List ℕ) {text : List ℕ} (rest : List ℕ) → text ≡ sign ++ rest → begins_with sign text ≡ true
begins sign {text} rest e = subst (λ l. begins_with sign l ≡ true) (sym e) (begins_is sign rest)

-- The one way in which a nested comment goes on.

pub nested_closed : {text rest end : List ℕ} → IsNested text end → text ≡ codes "*)" ++ rest → end ≡ rest
nested_closed (closed e) f = same_behind (sym e ∙ f)
nested_closed (nested e p q) f = absurd (omega (arith, same_first (sym e ∙ f)))
nested_closed {rest = r} (other e n m p) f = absurd (not_both (begins (codes "*)") r f) m)

pub nested_opened : {text inside end : List ℕ} → IsNested text end → text ≡ codes "(*" ++ inside → (behind : List ℕ) × IsNested inside behind × IsNested behind end
nested_opened (closed e) f = absurd (omega (arith, same_first (sym e ∙ f)))
nested_opened {end = z} (nested {behind = b} e p q) f = (b, subst (λ l. IsNested l b) (same_behind (sym e ∙ f)) p, q)
nested_opened {inside = i} (other e n m p) f = absurd (not_both (begins (codes "(*") i f) n)

pub nested_other : {text end : List ℕ} → IsNested text end → begins_with (codes "(*") text ≡ false → begins_with (codes "*)") text ≡ false → IsNested (drop 1 text) end
nested_other (closed {rest = r} e) n m = absurd (not_both (begins (codes "*)") r e) m)
nested_other (nested {inside = i} e p q) n m = absurd (not_both (begins (codes "(*") i e) n)
nested_other (other l n p q) m k = q

pub nested_once : {text a b : List ℕ} → IsNested text a → IsNested text b → a ≡ b
nested_once (closed e) q = sym (nested_closed q e)
nested_once {b = z} (nested e p q) r =
    let s = nested_opened r e in
    nested_once q (subst (λ l. IsNested l z) (sym (nested_once p s.1)) s.2)
nested_once (other l n m p) q = nested_once p (nested_other q n m)

pub nested_shorter : {text rest : List ℕ} → IsNested text rest → length rest < length text
nested_shorter (closed e) = omega (arith, ap length e)
nested_shorter (nested e p q) = omega (arith, ap length e, nested_shorter p, nested_shorter q)
nested_shorter {text = t} (other l n m p) = omega (arith, length-drop 1 t, nested_shorter p)

-- Comments.

block_once : {text a b : List ℕ} → IsBlock text a → IsBlock text b → a ≡ b
block_once (block_closed e) (block_closed f) = same_behind (sym e ∙ f)
block_once (block_closed {rest = r} e) (block_goes_on l n q) = absurd (not_both (begins (codes "*/") r e) n)
block_once (block_goes_on l n p) (block_closed {rest = r} f) = absurd (not_both (begins (codes "*/") r f) n)
block_once (block_goes_on l n p) (block_goes_on m o q) = block_once p q

pub block_shorter : {text rest : List ℕ} → IsBlock text rest → length rest < length text
block_shorter (block_closed e) = omega (arith, ap length e)
block_shorter {text = t} (block_goes_on l n p) = omega (arith, length-drop 1 t, block_shorter p)

module _ {d : Dialect} where
  pub comment_once : {text a b : List ℕ} → IsComment d text a → IsComment d text b → a ≡ b
  comment_once {b = z} (nesting e p) (nesting f q) = nested_once p (subst (λ l. IsNested l z) (same_behind (sym f ∙ e)) q)
  comment_once (nesting e p) (line f q) = absurd (omega (arith, same_first (sym e ∙ f)))
  comment_once (nesting e p) (block _ f q) = absurd (omega (arith, same_first (sym e ∙ f)))
  comment_once (line e p) (nesting f q) = absurd (omega (arith, same_first (sym e ∙ f)))
  comment_once (line e p) (line f q) = p ∙ ap (λ l. drop (position_or_len (λ b. nat_eq b 10) l) l) (same_behind (sym e ∙ f)) ∙ sym q
  comment_once (line e p) (block _ f q) = absurd (omega (arith, same_second (sym e ∙ f)))
  comment_once (block _ e p) (nesting f q) = absurd (omega (arith, same_first (sym e ∙ f)))
  comment_once (block _ e p) (line f q) = absurd (omega (arith, same_second (sym e ∙ f)))
  comment_once {b = z} (block _ e p) (block _ f q) = block_once p (subst (λ l. IsBlock l z) (same_behind (sym f ∙ e)) q)

  pub comment_shorter : {text rest : List ℕ} → IsComment d text rest → length rest < length text
  comment_shorter (nesting e p) = omega (arith, ap length e, nested_shorter p)
  comment_shorter (line {inside = i} e p) = omega (arith, ap length e, ap length p, length-drop (position_or_len (λ b. nat_eq b 10) i) i)
  comment_shorter (block _ e p) = omega (arith, ap length e, block_shorter p)

pub comment_opens : (d : Dialect) {text rest : List ℕ} → IsComment d text rest → opens_comment d text ≡ true
comment_opens Litmus (nesting e p) = subst (λ l. opens_comment Litmus l ≡ true) (sym e) refl
comment_opens Litmus (line e p) = subst (λ l. opens_comment Litmus l ≡ true) (sym e) refl
comment_opens Litmus (block _ e p) = subst (λ l. opens_comment Litmus l ≡ true) (sym e) refl
comment_opens Cat (nesting e p) = subst (λ l. opens_comment Cat l ≡ true) (sym e) refl
comment_opens Cat (line e p) = subst (λ l. opens_comment Cat l ≡ true) (sym e) refl
comment_opens Cat (block c e p) = absurd (cc)

-- what opens a comment is no blank
no_blank_at : (sign text : List ℕ) → begins_blank (sign ++ drop (length sign) text) ≡ false → begins_with sign text ≡ true → begins_blank text ≡ false
no_blank_at sign text n e = subst (λ l. begins_blank l ≡ false) (sym (begins_true sign text e)) n

pub opens_no_blank : (d : Dialect) (text : List ℕ) → opens_comment d text ≡ true → begins_blank text ≡ false
opens_no_blank Litmus text e =
    elim (or_cases (begins_with (codes "(*") text || begins_with (codes "//") text) (begins_with (codes "/*") text) e) [
      | inl f ↦ elim (or_cases (begins_with (codes "(*") text) (begins_with (codes "//") text) f) [
        | inl g ↦ no_blank_at (codes "(*") text refl g
        | inr g ↦ no_blank_at (codes "//") text refl g
      ]
      | inr f ↦ no_blank_at (codes "/*") text refl f
    ]
opens_no_blank Cat text e =
    elim (or_cases (begins_with (codes "(*") text) (begins_with (codes "//") text) e) [
      | inl g ↦ no_blank_at (codes "(*") text refl g
      | inr g ↦ no_blank_at (codes "//") text refl g
    ]

first_at : (sign text : List ℕ) → begins_with sign text ≡ true → first text ≡ first (sign ++ drop (length sign) text)
first_at sign text e = ap first (begins_true sign text e)

pub opens_first : (d : Dialect) (text : List ℕ) → opens_comment d text ≡ true → (first text ≡ 40) ⊎ (first text ≡ 47)
opens_first Litmus text e =
    elim (or_cases (begins_with (codes "(*") text || begins_with (codes "//") text) (begins_with (codes "/*") text) e) [
      | inl f ↦ elim (or_cases (begins_with (codes "(*") text) (begins_with (codes "//") text) f) [
        | inl g ↦ inl (first_at (codes "(*") text g)
        | inr g ↦ inr (first_at (codes "//") text g)
      ]
      | inr f ↦ inr (first_at (codes "/*") text f)
    ]
opens_first Cat text e =
    elim (or_cases (begins_with (codes "(*") text) (begins_with (codes "//") text) e) [
      | inl g ↦ inl (first_at (codes "(*") text g)
      | inr g ↦ inr (first_at (codes "//") text g)
    ]

pub opens_nonempty : (d : Dialect) (text : List ℕ) → opens_comment d text ≡ true → 0 < length text
opens_nonempty Litmus [] e = absurd (false≢true e)
opens_nonempty Cat [] e = absurd (false≢true e)
opens_nonempty d (x ∷ text) e = omega arith

-- Gaps. At a stuck place no gap goes on.
pub record IsStuck (d : Dialect) (text : List ℕ) : Type 0 where
  pub no_blank : begins_blank text ≡ false
  pub unclosed : (rest : List ℕ) → IsComment d text rest → ⊥

pub stuck_at_end : (d : Dialect) (text : List ℕ) → IsGapEnd d text → IsStuck d text
stuck_at_end d text h = record { no_blank = h.no_blank; unclosed = λ rest c. not_both (comment_opens d c) h.no_comment }

pub stuck_at_open : (d : Dialect) (text : List ℕ) → IsOpenComment d text → IsStuck d text
stuck_at_open d text h = record { no_blank = opens_no_blank d text h.opens; unclosed = h.unclosed }

pub blank_nonempty : (text : List ℕ) → begins_blank text ≡ true → 0 < length text
blank_nonempty [] e = absurd (false≢true e)
blank_nonempty (x ∷ text) e = omega arith

module _ {d : Dialect} where
  pub gap_trans : {text mid rest : List ℕ} → IsGap d text mid → IsGap d mid rest → IsGap d text rest
  gap_trans none g = g
  gap_trans (blank n f) g = blank n (gap_trans f g)
  gap_trans (comment c f) g = comment c (gap_trans f g)

  pub gap_length : {text rest : List ℕ} → IsGap d text rest → length rest ≤ length text
  gap_length none = omega arith
  gap_length {text = t} (blank n f) = omega (arith, length-drop 1 t, gap_length f)
  gap_length (comment c f) = omega (arith, comment_shorter c, gap_length f)

  -- a gap that goes up to a stuck place goes on behind a blank, and behind a comment
  pub gap_behind_blank : {text end : List ℕ} → IsGap d text end → IsStuck d end → begins_blank text ≡ true → IsGap d (drop 1 text) end
  gap_behind_blank none s n = absurd (not_both n s.no_blank)
  gap_behind_blank (blank m g) s n = g
  gap_behind_blank {text = t} (comment c g) s n = absurd (not_both n (opens_no_blank d t (comment_opens d c)))

  pub gap_behind_comment : {text behind end : List ℕ} → IsGap d text end → IsStuck d end → IsComment d text behind → IsGap d behind end
  gap_behind_comment {behind = b} none s c = absurd (s.unclosed b c)
  gap_behind_comment {text = t} (blank m g) s c = absurd (not_both m (opens_no_blank d t (comment_opens d c)))
  gap_behind_comment {end = z} (comment b g) s c = subst (λ l. IsGap d l z) (comment_once b c) g

  -- every part of a gap lies before a stuck place at its end
  pub gap_to_stuck : {text mid end : List ℕ} → IsGap d text mid → IsGap d text end → IsStuck d end → IsGap d mid end
  gap_to_stuck none g s = g
  gap_to_stuck (blank n f) g s = gap_to_stuck f (gap_behind_blank g s n) s
  gap_to_stuck (comment c f) g s = gap_to_stuck f (gap_behind_comment g s c) s

  gap_stays : {text end : List ℕ} → IsGap d text end → IsStuck d text → text ≡ end
  gap_stays none s = refl
  gap_stays (blank n f) s = absurd (not_both n s.no_blank)
  gap_stays (comment {behind = b} c f) s = absurd (s.unclosed b c)

  -- there is one stuck place
  pub gap_once : {text a b : List ℕ} → IsGap d text a → IsStuck d a → IsGap d text b → IsStuck d b → a ≡ b
  gap_once g s h t = gap_stays (gap_to_stuck g h t) s

  -- a gap goes on by a blank, and by a comment
  pub gap_more : {text rest : List ℕ} → IsGap d text rest → begins_blank rest ≡ true → IsGap d text (drop 1 rest)
  gap_more g n = gap_trans g (blank n none)

  pub gap_more_comment : {text rest behind : List ℕ} → IsGap d text rest → IsComment d rest behind → IsGap d text behind
  gap_more_comment g c = gap_trans g (comment c none)

  -- the same as the loop has them
  pub gap_range : {text : List ℕ} (rest : List ℕ) → IsGap d text rest → begins_blank rest ≡ true → IsGap d text (take (length rest - 1) (drop 1 rest))
  gap_range rest g n = rw take_rest (gap_more g n)

-- What a text begins with, as the code has it.
module _ (d : Dialect) (text : List ℕ) where
  pub nesting_range : {rest : List ℕ} → begins_with (codes "(*") text ≡ true → IsNested (take (length text - 2) (drop 2 text)) rest → IsComment d text rest
  nesting_range {rest} e p = nesting (begins_true (codes "(*") text e) (subst (λ l. IsNested l rest) (range_is 2 text) p)

  pub line_range : {rest : List ℕ} → begins_with (codes "//") text ≡ true → IsLine (take (length text - 2) (drop 2 text)) rest → IsComment d text rest
  line_range {rest} e p = line (begins_true (codes "//") text e) (subst (λ l. IsLine l rest) (range_is 2 text) p)

  pub block_range : {rest : List ℕ} → d ≡ Litmus → begins_with (codes "/*") text ≡ true → IsBlock (take (length text - 2) (drop 2 text)) rest → IsComment d text rest
  block_range {rest} l e p = block l (begins_true (codes "/*") text e) (subst (λ l. IsBlock l rest) (range_is 2 text) p)

block_inside : (d : Dialect) (text : List ℕ) {rest inside : List ℕ} → text ≡ codes "/*" ++ inside → IsComment d text rest → IsBlock inside rest
block_inside d text e (nesting f p) = absurd (omega (arith, same_first (sym e ∙ f)))
block_inside d text e (line f p) = absurd (omega (arith, same_second (sym e ∙ f)))
block_inside d text {rest} e (block _ f p) = subst (λ l. IsBlock l rest) (same_behind (sym f ∙ e)) p

either-true : (b : Bool) → (b || true) ≡ true
either-true true = refl
either-true false = refl

opens_block : (d : Dialect) (text : List ℕ) → d ≡ Litmus → begins_with (codes "/*") text ≡ true → opens_comment d text ≡ true
opens_block Litmus text l e = rw e (either-true (begins_with (codes "(*") text || begins_with (codes "//") text))
opens_block Cat text l e = absurd (cc)

pub open_block : (d : Dialect) (text : List ℕ) → d ≡ Litmus → begins_with (codes "/*") text ≡ true → ((rest : List ℕ) → IsBlock (take (length text - 2) (drop 2 text)) rest → ⊥) → IsOpenComment d text
open_block d text l e never = record {
  opens = opens_block d text l e;
  unclosed = λ rest h. never rest (subst (λ l. IsBlock l rest) (sym (range_is 2 text)) (block_inside d text (begins_true (codes "/*") text e) h));
}
