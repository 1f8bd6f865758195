-- Where the next quote stands.
use Rattle.std.proofs.Common.{◌≡◌, ℕ, ◌+◌, ◌<◌, inl, inr, List, [], ◌∷◌, ◌++◌, length, get_or, take, drop, not, sym, refl, ap, ◌∙◌, arith, length-append, append_assoc, length-take, get_or-take, take-append-drop, nat_eq}
use Rattle.std.specs.Prelude.{Some, None}
use Rattle.std.proofs.lemmas.Bool.{false≢true, eqb-true, eq-eqb, cases_lt}
use Rattle.std.proofs.lemmas.List.{get_or_default, get_or_at, get_or_append_left, drop_at, take_more}
use Rattle.memchr.specs.Find.{IsFirstByte, is_byte}
use Rattle.wb_text.specs.Gaps.{IsQuoted}
use Rattle.wb_text.proofs.Texts.{not_true, not_false}

pub split_at : (t : List ℕ) (p : ℕ) → p < length t → t ≡ take p t ++ get_or t p 0 ∷ drop (p + 1) t
split_at t p l =
    sym (take-append-drop (p + 1) t) ∙ ap (λ u. u ++ drop (p + 1) t) (take_more t p 0 l) ∙ append_assoc (take p t) (get_or t p 0 ∷ []) (drop (p + 1) t)

module _ {t rest : List ℕ} (q : IsQuoted t rest) where
  pub quote_length : length t ≡ length q.inside + 1 + length rest
  quote_length = omega (arith, ap length q.closed, length-append q.inside (34 ∷ rest))

  pub quote_here : get_or t (length q.inside) 0 ≡ 34
  quote_here = ap (λ u. get_or u (length q.inside) 0) q.closed ∙ get_or_at q.inside 34 rest 0 (length q.inside) refl

  pub no_quote_before : (k : ℕ) → k < length q.inside → get_or t k 0 ≡ 34 → ⊥
  no_quote_before k less at =
      let is : get_or t k 0 ≡ get_or q.inside k 0 = ap (λ u. get_or u k 0) q.closed ∙ get_or_append_left q.inside (34 ∷ rest) 0 k less in
      false≢true (sym (not_false _ (q.unbroken k 0 less)) ∙ eq-eqb (get_or q.inside k 0) 34 (sym is ∙ at))

  pub quoted_rest : rest ≡ drop (length q.inside + 1) t
  quoted_rest =
      let size : length (q.inside ++ 34 ∷ []) ≡ length q.inside + 1 = omega (arith, length-append q.inside (34 ∷ [])) in
      sym (ap (drop (length q.inside + 1)) (q.closed ∙ sym (append_assoc q.inside (34 ∷ []) rest)) ∙ drop_at (q.inside ++ 34 ∷ []) rest (length q.inside + 1) size)

pub quoted_once : {t a b : List ℕ} → IsQuoted t a → IsQuoted t b → a ≡ b
quoted_once {t} p q =
    let same : length p.inside ≡ length q.inside = elim (cases_lt (length p.inside) (length q.inside)) [
      | inl less ↦ absurd (no_quote_before q (length p.inside) less (quote_here p))
      | inr more ↦ elim (cases_lt (length q.inside) (length p.inside)) [
        | inl less ↦ absurd (no_quote_before p (length q.inside) less (quote_here q))
        | inr equal ↦ omega arith
      ]
    ] in
    quoted_rest p ∙ ap (λ n. drop (n + 1) t) same ∙ sym (quoted_rest q)

-- the first quote, as memchr finds it

pub quoted_found : (t : List ℕ) (p : ℕ) → IsFirstByte (is_byte 34) t (Some p) → IsQuoted t (drop (p + 1) t)
quoted_found t p f =
    let l : p < length t = f.0.high in
    record {
      inside = take p t;
      closed = split_at t p l ∙ ap (λ b. take p t ++ b ∷ drop (p + 1) t) (eqb-true (get_or t p 0) 34 f.1);
      unbroken = λ k x inside.
          let less : k < p = omega (arith, length-take p t) in
          let is : get_or (take p t) k x ≡ get_or t k 0 = get_or-take p t k x less ∙ get_or_default t k x 0 (omega arith) in
          ap not (not_true (nat_eq (get_or (take p t) k x) 34) (λ same. f.0.before k (omega arith) less (ap (λ b. nat_eq b 34) (sym is) ∙ same)));
    }

pub quoted_absent : (t : List ℕ) → IsFirstByte (is_byte 34) t None → (rest : List ℕ) → IsQuoted t rest → ⊥
quoted_absent t never rest q = never (length q.inside) (omega arith) (omega (arith, quote_length q)) (eq-eqb (get_or t (length q.inside) 0) 34 (quote_here q))
