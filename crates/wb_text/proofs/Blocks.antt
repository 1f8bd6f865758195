-- Where the first `*/` stands.
use Rattle.std.proofs.Common.{◌≡◌, ℕ, zero, suc, ◌+◌, ◌<◌, ◌≤◌, List, [], ◌∷◌, ◌++◌, length, get_or, drop, sym, ap, ◌∙◌, subst, arith}
use Rattle.std.specs.Prelude.{codes, None}
use Rattle.memchr.specs.Find.{FindsNeedle, Nowhere, OccursAt}
use Rattle.wb_text.specs.Gaps.{IsBlock, block_closed, block_goes_on}
use Rattle.wb_text.proofs.Texts.{first, begins_true, not_true}

occurs_first : (text : List ℕ) → OccursAt text (codes "*/") 0 → text ≡ codes "*/" ++ drop 2 text
occurs_first [] o = let fits : 2 ≤ 0 = o.fits in absurd (omega arith)
occurs_first (a ∷ []) o = let fits : 2 ≤ 1 = o.fits in absurd (omega arith)
occurs_first (a ∷ b ∷ t) o =
    let x : a ≡ 42 = o.reads 0 (omega arith) in
    let y : b ≡ 47 = o.reads 1 (omega arith) in
    λ i. x i ∷ y i ∷ t

first_read : (text rest : List ℕ) → text ≡ codes "*/" ++ rest → (j : ℕ) → j < 2 → get_or text j 0 ≡ get_or (codes "*/") j 0
first_read text rest e zero l = ap first e
first_read text rest e (suc zero) l = ap (λ u. get_or u 1 0) e
first_read text rest e (suc (suc j)) l = absurd (omega arith)

first_occurs : (text rest : List ℕ) → text ≡ codes "*/" ++ rest → OccursAt text (codes "*/") 0
first_occurs text rest e = record {
  fits = omega (arith, ap length e);
  reads = λ j l.
      let z : 0 + j ≡ j = omega arith in
      ap (λ m. get_or text m 0) z ∙ first_read text rest e j l;
}

module _ {sign : List ℕ} where
  occurs_behind : (x : ℕ) (t : List ℕ) (k : ℕ) → OccursAt (x ∷ t) sign (suc k) → OccursAt t sign k
  occurs_behind x t k o = record {
    fits = omega (arith, o.fits);
    reads = λ j l.
        let e : suc k + j ≡ suc (k + j) = omega arith in
        ap (λ m. get_or (x ∷ t) m 0) (sym e) ∙ o.reads j l;
  }

  occurs_before : (text : List ℕ) (k : ℕ) → 0 < length text → OccursAt (drop 1 text) sign k → OccursAt text sign (suc k)
  occurs_before [] k l o = absurd (omega arith)
  occurs_before (x ∷ t) k l o = record {
    fits = omega (arith, o.fits);
    reads = λ j s.
        let e : suc k + j ≡ suc (k + j) = omega arith in
        ap (λ m. get_or (x ∷ t) m 0) e ∙ o.reads j s;
  }

-- the first `*/`, as memchr finds it

pub block_found : (k : ℕ) (text : List ℕ) → OccursAt text (codes "*/") k → Nowhere (OccursAt text (codes "*/")) 0 k → IsBlock text (drop (k + 2) text)
block_found zero text o n = block_closed (occurs_first text o)
block_found (suc k) [] o n = absurd (omega (arith, o.fits))
block_found (suc k) (x ∷ t) o n =
    let e : suc k + 2 ≡ suc (k + 2) = omega arith in
    let behind = block_found k t (occurs_behind x t k o) (λ j low less h. n (suc j) (omega arith) (omega arith) (occurs_before (x ∷ t) j (omega arith) h)) in
    block_goes_on
    (omega arith)
    (not_true _ (λ b. n 0 (omega arith) (omega arith) (first_occurs (x ∷ t) (drop 2 (x ∷ t)) (begins_true (codes "*/") (x ∷ t) b))))
    (subst (λ m. IsBlock t (drop m (x ∷ t))) (sym e) behind)

block_occurs : {text rest : List ℕ} → IsBlock text rest → (k : ℕ) × OccursAt text (codes "*/") k
block_occurs {text} {rest} (block_closed e) = (0, first_occurs text rest e)
block_occurs {text} (block_goes_on l n p) = let o = block_occurs p in (suc o.0, occurs_before text o.0 l o.1)

pub block_absent : (text : List ℕ) → FindsNeedle text (codes "*/") 0 None → (rest : List ℕ) → IsBlock text rest → ⊥
block_absent text never rest b =
    let o = block_occurs b in
    never o.0 (omega arith) (omega (arith, o.1.fits)) o.1
