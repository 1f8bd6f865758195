-- A relation that is filled with the pairs of another, turned.
use Rattle.std.proofs.Common.{◌≡◌, ℕ, ◌<◌, ◌≤◌, ◌⊎◌, ◌+◌, ◌-◌, ◌*◌, ◌%◌, ◌^◌, true, refl, sym, ◌∙◌, subst, inl, inr, arith, bit_and}
use Rattle.std.specs.Int.{bit_not, w64}
use Rattle.std.proofs.lemmas.Bool.{cases_eq}
use Rattle.relations.specs.Equality.{reworded}
use Rattle.relations.specs.Relation.{Relation, In, IsExactly, IsCanonical}
use Rattle.relations.specs.Words.{has_bit, IsRow}
use Rattle.relations.proofs.Words.{of_and_bit, and_bit, not_bit, of_not_bit, one_bit, of_one_bit, zero_bit, mask_only_at, mask_bit_at}

-- The events of `from` that have left `left` are related to event `to`, too.
pub record Inserts (n from left to : ℕ) (r s : Relation) : Type 0 where
  pub inside : (m : ℕ) → has_bit left m ≡ true → (m < n) × (has_bit from m ≡ true)
  pub exact : IsExactly n (λ i j. In r i j ⊎ ((has_bit from i ≡ true) × (has_bit left i ≡ true → ⊥) × (j ≡ to))) s

pub inserts_begun : (from to : ℕ) (r : Relation) → IsCanonical r → ((m : ℕ) → has_bit from m ≡ true → m < r.count) → Inserts r.count from from to r r
inserts_begun from to r c f = record {
  inside = λ m b. (f m b, b);
  exact = record { count = refl; only = λ i j p. inl p; all = λ i j a b x. elim x [ inl p ↦ p | inr p ↦ absurd (p.1 p.0) ]; canonical = c };
}

pub inserts_on : (n from left to m : ℕ) (r s t : Relation) → m < 64 → n ≤ 64 → has_bit left m ≡ true → Inserts n from left to r s → IsExactly s.count (λ i j. In s i j ⊎ ((i ≡ m) × (j ≡ to))) t →
    Inserts n from (bit_and left (bit_not w64 (1 * 2 ^ m % 2 ^ 64))) to r t
inserts_on n from left to m r s t k z b h g =
    let one : ℕ = 1 * 2 ^ m % 2 ^ 64 in
    let small : one < 2 ^ 64 = omega arith in
    let e = h.exact in
    let E : ℕ → ℕ → Type 0 = λ i j. (has_bit from i ≡ true) × (has_bit (bit_and left (bit_not w64 one)) i ≡ true → ⊥) × (j ≡ to) in
    record {
      inside = λ x y. h.inside x (of_and_bit left _ x y).0;
      exact = record {
        count = g.count ∙ e.count;
        only = λ i j x. elim (g.only i j x) [
          | inl y ↦ elim (e.only i j y) [ inl p ↦ inl p | inr p ↦ inr (p.0, λ u. p.1 (of_and_bit left _ i u).0, p.2) ]
          | inr y ↦ (let F : ℕ → Type 0 = λ i. E i j in inr (subst F (sym y.0) ((h.inside m b).1, λ u. of_not_bit one m small k (of_and_bit left _ m u).1 (one_bit m k), y.1)))
        ];
        all = λ i j a c x.
            (let d : i < s.count = omega (arith, a, e.count) in
            let f : j < s.count = omega (arith, c, e.count) in
            elim x [
              | inl p ↦ g.all i j d f (inl (e.all i j a c (inl p)))
              | inr p ↦ elim (cases_eq i m) [
                | inl y ↦ g.all i j d f (inr (y, p.2))
                | inr y ↦ g.all i j d f (inl (e.all i j a c (inr (p.0, λ u. p.1 (and_bit left _ i u (not_bit one i small (omega (arith, a, z)) (λ v. y (sym (of_one_bit m i k v))))), p.2))))
              ]
            ]);
        canonical = g.canonical;
      };
    }

pub inserts_done : (n from left to : ℕ) (r s : Relation) → left ≡ 0 → Inserts n from left to r s → IsExactly n (λ i j. In r i j ⊎ ((has_bit from i ≡ true) × (j ≡ to))) s
inserts_done n from left to r s e h =
    let R : ℕ → ℕ → Type 0 = λ i x. has_bit x i ≡ true in
    reworded n (λ i j. In r i j ⊎ ((has_bit from i ≡ true) × (has_bit left i ≡ true → ⊥) × (j ≡ to))) (λ i j. In r i j ⊎ ((has_bit from i ≡ true) × (j ≡ to))) s
    (λ i j x. elim x [ inl p ↦ inl p | inr p ↦ inr (p.0, p.2) ])
    (λ i j a b x. elim x [ inl p ↦ inl p | inr p ↦ inr (p.0, λ u. zero_bit i (subst (R i) e u), p.1) ]) h.exact

-- ---- row by row

-- One row more is turned.
pub turning_on : (n m to row mask : ℕ) (P : ℕ → ℕ → Type 0) (r s : Relation) → to < n → mask ≡ 2 ^ m - 1 → m ≡ n → IsRow n (P to) row → IsExactly n (λ i j. (j < to) × P j i) r →
    IsExactly r.count (λ i j. In r i j ⊎ ((has_bit (bit_and row mask) i ≡ true) × (j ≡ to))) s → IsExactly n (λ i j. (j < to + 1) × P j i) s
turning_on n m to row mask P r s l e d w h g = record {
  count = g.count ∙ h.count;
  only = λ i j x. elim (g.only i j x) [
    | inl y ↦ (let p = h.only i j y in ((let q = p.0 in omega (arith, q)), p.1))
    | inr y ↦ (let b = of_and_bit row mask i y.0 in
        let F : ℕ → Type 0 = λ j. (j < to + 1) × P j i in subst F (sym y.1) (omega arith, w.only i (mask_only_at n m mask i e d b.1) b.0))
  ];
  all = λ i j a b x.
      (let c : i < r.count = omega (arith, a, h.count) in
      let f : j < r.count = omega (arith, b, h.count) in
      elim (cases_eq j to) [
        | inl y ↦ (let Q : ℕ → Type 0 = λ j. P j i in g.all i j c f (inr (and_bit row mask i (w.all i a (subst Q y x.1)) (mask_bit_at n m mask i e d a), y)))
        | inr y ↦ g.all i j c f (inl (h.all i j a b ((let q = x.0 in omega (arith, q, y)), x.1)))
      ]);
  canonical = g.canonical;
}

pub turning_done : (n k : ℕ) (P : ℕ → ℕ → Type 0) (r : Relation) → n ≤ k → IsExactly n (λ i j. (j < k) × P j i) r → IsExactly n (λ i j. P j i) r
turning_done n k P r l h = reworded n (λ i j. (j < k) × P j i) (λ i j. P j i) r (λ i j x. x.1) (λ i j a b x. (omega (arith, b, l), x)) h
