-- The events that chains lead to from one event: each that is found is gone on from once.
use Rattle.std.proofs.Common.{◌≡◌, ℕ, ◌<◌, ◌≤◌, ◌⊎◌, ◌≢◌, ◌+◌, ◌-◌, ◌*◌, ◌%◌, ◌^◌, List, true, refl, sym, ◌∙◌, ap, subst, inl, inr, arith, length, get_or, set, get_or-set_same, get_or-set_other, bit_and, bit_or}
use Rattle.std.specs.Int.{bit_not, w64, trailing_zeros}
use Rattle.std.proofs.lemmas.Bool.{cases_eq}
use lib.Bits.{and_le_r}
use Rattle.relations.specs.Algebra.{Chain, one, more}
use Rattle.relations.specs.Equality.{reworded}
use Rattle.relations.specs.Relation.{Relation, In, IsExactly, IsCanonical, relation}
use Rattle.relations.specs.Words.{has_bit, bit, ClosedFrom, IsFollowed, IsRow}
use Rattle.relations.proofs.Words.{bit_or_not, of_and_bit, and_bit, or_bit, of_or_bit, not_bit, one_bit, of_one_bit, zero_bit, mask_only, mask_bit, lowest_bit, row_told, row_at}
use Rattle.relations.proofs.Relations.{row_of, relation_of}

-- What is found leads from i, and holds where i leads and where those lead that have left `left`.
pub record Reaches (n i left found : ℕ) (P : ℕ → ℕ → Type 0) : Type 0 where
  pub inside : (m : ℕ) → has_bit left m ≡ true → m < n
  pub only : (j : ℕ) → j < n → has_bit found j ≡ true → Chain P i j
  pub first : (j : ℕ) → j < n → P i j → has_bit found j ≡ true
  pub on : (m : ℕ) → m < n → (has_bit left m ≡ true) ⊎ ((j : ℕ) → j < n → P m j → has_bit found j ≡ true)

pub begun : (n i mask row : ℕ) (P : ℕ → ℕ → Type 0) → mask ≡ 2 ^ n - 1 → IsRow n (P i) row → Reaches n i mask row P
begun n i mask row P e h =
    let Q : ℕ → Type 0 = λ x. Reaches n i x row P in
    subst Q (sym e) (record {
      inside = λ k b. mask_only n k b;
      only = λ j l b. one (h.only j l b);
      first = λ j l p. h.all j l p;
      on = λ k l. inl (mask_bit n k l);
    })

append : (P : ℕ → ℕ → Type 0) (i m j : ℕ) → Chain P i m → Chain P m j → Chain P i j
append P i m j (one p) c = more m p c
append P i m j (more x p d) c = more x p (append P x m j d c)

of_closed : (P : ℕ → ℕ → Type 0) (k m j : ℕ) → ClosedFrom k P m j → Chain P m j
of_closed P k m j (inl p) = one p
of_closed P k m j (inr c) = c.1

pub gone_on : (n i left found m beyond w : ℕ) (P : ℕ → ℕ → Type 0) → ((x y : ℕ) → P x y → (x < n) × (y < n)) → w < 2 ^ 64 → has_bit found m ≡ true → has_bit left m ≡ true → n ≤ 64 → Reaches n i left found P →
    IsRow n (ClosedFrom (i + 1) P m) beyond → IsFollowed m i beyond w → Reaches n i (bit_and left (bit_not w64 w)) (bit_or found beyond) P
gone_on n i left found m beyond w P in_range small f b z h g k = record {
  inside = λ x y. h.inside x (of_and_bit left _ x y).0;
  only = λ j s y. elim (of_or_bit found beyond j y) [
    | inl u ↦ h.only j s u
    | inr u ↦ append P i m j (h.only m (h.inside m b) f) (of_closed P (i + 1) m j (g.only j s u))
  ];
  first = λ j s p. or_bit found beyond j (inl (h.first j s p));
  on = λ x s. elim (h.on x s) [
    | inr u ↦ inr (λ j t p. or_bit found beyond j (inl (u j t p)))
    | inl u ↦ elim (bit_or_not w x) [
      | inr v ↦ inl (and_bit left _ x u (not_bit w x small (omega (arith, s, z)) v))
      | inl v ↦ inr (λ j t p. or_bit found beyond j (inr (elim (k.only x v) [
        | inl e ↦ (let Q : ℕ → Type 0 = λ x. P x j in g.all j t (inl (subst Q e p)))
        | inr y ↦ g.all j t (inr ((let l = y.0 in omega (arith, l)), append P m x j (of_closed P (i + 1) m x (g.only x s y.1)) (one p)))
      ])))
    ]
  ];
}

-- Where each event that is found is gone on from, chains lead to no other.
pub all_found : (n i left found : ℕ) (P : ℕ → ℕ → Type 0) → ((x y : ℕ) → P x y → (x < n) × (y < n)) → bit_and found left ≡ 0 → Reaches n i left found P → IsRow n (Chain P i) found
all_found n i left found P f e h = record {
  only = h.only;
  all = λ j l c. along i j c (λ y q. h.first y (f i y q).1 q);
}
  where
    along : (m j : ℕ) → Chain P m j → ((y : ℕ) → P m y → has_bit found y ≡ true) → has_bit found j ≡ true
    along m j (one p) g = g j p
    along m j (more x p c) g = along x j c (λ y q. elim (h.on x (f m x p).1) [
      | inl u ↦ (let R : ℕ → Type 0 = λ w. has_bit w x ≡ true in absurd (zero_bit x (subst R e (and_bit found left x (g x p) u))))
      | inr u ↦ u y (f x y q).1 q
    ])

-- The lowest event that is found and left.
pub next_of : (found left : ℕ) → left < 2 ^ 64 → bit_and found left ≢ 0 →
    (trailing_zeros w64 (bit_and found left) < 64) × (has_bit found (trailing_zeros w64 (bit_and found left)) ≡ true) × (has_bit left (trailing_zeros w64 (bit_and found left)) ≡ true)
next_of found left l d =
    let b : (trailing_zeros w64 (bit_and found left) < 64) × (has_bit (bit_and found left) (trailing_zeros w64 (bit_and found left)) ≡ true) = lowest_bit (bit_and found left) (omega (arith, and_le_r found left, l)) d in
    let s : (has_bit found (trailing_zeros w64 (bit_and found left)) ≡ true) × (has_bit left (trailing_zeros w64 (bit_and found left)) ≡ true) = of_and_bit found left _ b.1 in
    (b.0, s.0, s.1)

-- event m alone
pub followed_own : (m i beyond : ℕ) → m < 64 → IsFollowed m i beyond (1 * 2 ^ m % 2 ^ 64)
followed_own m i beyond k = record { own = one_bit m k; only = λ j b. inl (sym (of_one_bit m j k b)) }

-- event m with what is beyond it
pub followed_beyond : (m i beyond : ℕ) → m < 64 → i < m → IsFollowed m i beyond (bit_or (1 * 2 ^ m % 2 ^ 64) beyond)
followed_beyond m i beyond k l = record {
  own = or_bit (1 * 2 ^ m % 2 ^ 64) beyond m (inl (one_bit m k));
  only = λ j b. elim (of_or_bit (1 * 2 ^ m % 2 ^ 64) beyond j b) [ inl u ↦ inl (sym (of_one_bit m j k u)) | inr u ↦ inr (l, u) ];
}

-- ---- the events one by one, from the last on

pub closing_begun : (n : ℕ) (r s : Relation) → IsCanonical r → n ≡ r.count → s ≡ r → IsExactly r.count (ClosedFrom n (In r)) s
closing_begun n r s c e d =
    let Q : Relation → Type 0 = λ s. IsExactly r.count (ClosedFrom n (In r)) s in
    subst Q (sym d) (record {
      count = refl;
      only = λ i j p. inl p;
      all = λ i j a b x. elim x [ inl p ↦ p | inr p ↦ absurd (let l = p.0 in omega (arith, a, e, l)) ];
      canonical = c;
    })

-- One row more is that of the ends of chains.
pub row_closed : (n m : ℕ) (rows : List ℕ) (i w : ℕ) (P : ℕ → ℕ → Type 0) (r : Relation) → relation n (bit rows) ≡ r → length rows ≡ 64 → n ≤ 64 → i < m → IsExactly m (ClosedFrom (i + 1) P) r → IsRow m (Chain P i) w →
    IsExactly m (ClosedFrom i P) (relation n (bit (set rows i w)))
row_closed n m rows i w P r e l k p h g =
    let t : n ≡ r.count = ap (λ x. x.count) e in
    relation_of n m (ClosedFrom i P) (set rows i w) (t ∙ h.count)
    (λ a s. elim (cases_eq a i) [
      | inl d ↦ (let R : ℕ → Type 0 = λ a. IsRow m (ClosedFrom i P a) (get_or (set rows i w) a 0) in
          let Q : ℕ → Type 0 = λ x. IsRow m (ClosedFrom i P i) x in
          subst R (sym d) (subst Q (sym (get_or-set_same rows i w 0 (omega (arith, p, t, h.count, k, l))))
          (row_told m (Chain P i) (ClosedFrom i P i) w (λ j b c. inr (omega arith, c)) (λ j b c. of_closed P i i j c) g)))
      | inr d ↦ (let Q : ℕ → Type 0 = λ x. IsRow m (ClosedFrom i P a) x in
          subst Q (sym (get_or-set_other rows i a w 0 d))
          (row_told m (In r a) (ClosedFrom i P a) (get_or rows a 0)
          (λ j b x. elim (h.only a j x) [ inl y ↦ inl y | inr y ↦ inr ((let q = y.0 in omega (arith, q)), y.1) ])
          (λ j b x. h.all a j s b (elim x [ inl y ↦ inl y | inr y ↦ inr ((let q = y.0 in omega (arith, q, d)), y.1) ]))
          (row_at m r.count (In r a) (get_or rows a 0) (sym h.count) (row_of n rows a r e (omega (arith, s, h.count))))))
    ])

pub closed_at : (n k l : ℕ) (P : ℕ → ℕ → Type 0) (r : Relation) → k ≡ l → IsExactly n (ClosedFrom k P) r → IsExactly n (ClosedFrom l P) r
closed_at n k l P r e h = let Q : ℕ → Type 0 = λ k. IsExactly n (ClosedFrom k P) r in subst Q e h

pub closing_done : (n k : ℕ) (P : ℕ → ℕ → Type 0) (r : Relation) → k ≡ 0 → IsExactly n (ClosedFrom k P) r → IsExactly n (Chain P) r
closing_done n k P r e h = reworded n (ClosedFrom k P) (Chain P) r (λ i j x. of_closed P k i j x) (λ i j a b c. inr (omega (arith, e), c)) h
