-- What is known of a relation made of words.
use Rattle.std.proofs.Common.{◌≡◌, ℕ, ◌<◌, ◌≤◌, ◌⊎◌, ◌↔◌, ◌+◌, ◌/◌, ◌^◌, ◌==◌, List, Bool, true, false, refl, sym, ◌∙◌, ap, subst, inl, inr, arith, length, get_or, set, get_or-set_same, get_or-set_other, bit_and, bit_or, replicate, ◌*◌, ◌-◌, ◌%◌}
use Rattle.std.proofs.lemmas.Bool.{false≢true, cases_eq}
use Rattle.std.proofs.lemmas.List.{get_or-replicate}
use Rattle.relations.specs.Tables.{cell}
use Rattle.relations.specs.Relation.{Relation, In, IsExactly, IsCanonical, IsWithin, relation}
use Rattle.relations.specs.TableFacts.{cell_square, square_below, square_again}
use Rattle.relations.specs.Equality.{pair_below, one_relation}
use Rattle.relations.specs.Words.{has_bit, bit, IsRow, BuildsRows, Combines, CombinesRow}
use Rattle.relations.proofs.Words.{bit_by_shift, row_or, row_one, row_told, row_at, empty_at, of_and_bit, and_bit}

in_relation : (n : ℕ) (f : ℕ → ℕ → Bool) (i j : ℕ) → i < n → j < n → f i j ≡ true → In (relation n f) i j
in_relation n f i j a b h = cell_square n f i j a b ∙ h

of_relation : (n : ℕ) (f : ℕ → ℕ → Bool) (i j : ℕ) → i < n → j < n → In (relation n f) i j → f i j ≡ true
of_relation n f i j a b h = sym (cell_square n f i j a b) ∙ h

-- A relation keeps a word for each row.
pub row_of : (n : ℕ) (rows : List ℕ) (i : ℕ) (r : Relation) → relation n (bit rows) ≡ r → i < r.count → IsRow r.count (In r i) (get_or rows i 0)
row_of n rows i r e =
    let P : Relation → Type 0 = λ r. i < r.count → IsRow r.count (In r i) (get_or rows i 0) in
    subst P e (λ a. record { only = λ j l m. in_relation n (bit rows) i j a l m; all = λ j l p. of_relation n (bit rows) i j a l p })

pub contained : (n : ℕ) (rows : List ℕ) (i j : ℕ) (r : Relation) → relation n (bit rows) ≡ r → i < r.count → j < r.count → ((bit_and (get_or rows i 0 / 2 ^ j) 1 == 1) ≡ true) ↔ In r i j
contained n rows i j r e p q =
    let h : IsRow r.count (In r i) (get_or rows i 0) = row_of n rows i r e p in
    let P : Bool → Type 0 = λ b. (b ≡ true) ↔ In r i j in
    subst P (bit_by_shift (get_or rows i 0) j) (h.only j q, h.all j q)

-- A relation that a type keeps has no pair beyond its count.
pub bounded : (n : ℕ) (f : ℕ → ℕ → Bool) (r : Relation) → relation n f ≡ r → IsCanonical r
bounded n f r e = let P : Relation → Type 0 = λ r. IsCanonical r in subst P e (record { pairs = square_again n f })

-- Words that tell P row by row are the relation of P.
pub relation_of : (n m : ℕ) (P : ℕ → ℕ → Type 0) (rows : List ℕ) → n ≡ m → ((i : ℕ) → i < m → IsRow m (P i) (get_or rows i 0)) → IsExactly m P (relation n (bit rows))
relation_of n m P rows e h =
    let Q : ℕ → Type 0 = λ n. IsExactly m P (relation n (bit rows)) in
    subst Q (sym e) (record {
      count = refl;
      only = λ i j x. (let s : (i < m) × (j < m) = square_below m (bit rows) i j x in (h i s.0).only j s.1 (of_relation m (bit rows) i j s.0 s.1 x));
      all = λ i j a b p. in_relation m (bit rows) i j a b ((h i a).all j b p);
      canonical = record { pairs = square_again m (bit rows) };
    })

-- What is built by words that tell P has just the pairs of P.
pub built : (n : ℕ) (P : ℕ → ℕ → Type 0) (r : Relation) → BuildsRows n (λ i w. IsRow n (P i) w) r → IsExactly n P r
built n P r h = record {
  count = h.count;
  only = λ i j m. (let s : (i < r.count) × (j < r.count) = pair_below r i j h.canonical m in
      let a : i < n = omega (arith, s.0, h.count) in
      let b : j < n = omega (arith, s.1, h.count) in
      let w : (w : ℕ) × IsRow n (P i) w × ((j : ℕ) → j < n → cell r.pairs i j ≡ has_bit w j) = h.each i a in
      w.1.only j b (sym (w.2 j b) ∙ m));
  all = λ i j a b p. (let w : (w : ℕ) × IsRow n (P i) w × ((j : ℕ) → j < n → cell r.pairs i j ≡ has_bit w j) = h.each i a in
      w.2 j b ∙ w.1.all j b p);
  canonical = h.canonical;
}

-- One word more.
pub rows_more : (P : ℕ → ℕ → Type 0) (rows : List ℕ) (i w : ℕ) → i < length rows → P i w →
    ((k : ℕ) → k < i → P k (get_or rows k 0)) → (k : ℕ) → k < i + 1 → P k (get_or (set rows i w) k 0)
rows_more P rows i w l h old k m = elim (cases_eq k i) [
  | inl d ↦ (let R : ℕ → Type 0 = λ x. P x (get_or (set rows i w) x 0) in
      let Q : ℕ → Type 0 = λ x. P i x in subst R (sym d) (subst Q (sym (get_or-set_same rows i w 0 l)) h))
  | inr d ↦ (let Q : ℕ → Type 0 = λ x. P k x in subst Q (sym (get_or-set_other rows i k w 0 d)) (old k (omega (arith, m, d))))
]

pub rows_built : (n : ℕ) (R : ℕ → ℕ → Type 0) (rows : List ℕ) → ((k : ℕ) → k < n → R k (get_or rows k 0)) → BuildsRows n R (relation n (bit rows))
rows_built n R rows h = record {
  count = refl;
  each = λ i a. (get_or rows i 0, h i a, λ j b. cell_square n (bit rows) i j a b);
  canonical = record { pairs = square_again n (bit rows) };
}

pub rows_built_at : (n m : ℕ) (R : ℕ → ℕ → Type 0) (rows : List ℕ) → m ≡ n → ((k : ℕ) → k < n → R k (get_or rows k 0)) → BuildsRows n R (relation m (bit rows))
rows_built_at n m R rows e h = (let Q : ℕ → Type 0 = λ m. BuildsRows n R (relation m (bit rows)) in subst Q (sym e) (rows_built n R rows h))

-- One row with more pairs: those to the events that a word tells.
pub joined : (n : ℕ) (rows : List ℕ) (i w : ℕ) (P : ℕ → Type 0) (r : Relation) → relation n (bit rows) ≡ r → length rows ≡ 64 → n ≤ 64 → i < r.count → IsRow r.count P w →
    IsExactly r.count (λ a b. In r a b ⊎ ((a ≡ i) × P b)) (relation n (bit (set rows i (bit_or (get_or rows i 0) w))))
joined n rows i w P r e l k p h =
    let t : n ≡ r.count = ap (λ x. x.count) e in
    let v : ℕ = bit_or (get_or rows i 0) w in
    relation_of n r.count (λ a b. In r a b ⊎ ((a ≡ i) × P b)) (set rows i v) t
    (λ a s. elim (cases_eq a i) [
      | inl d ↦ (let R : ℕ → Type 0 = λ a. IsRow r.count (λ b. In r a b ⊎ ((a ≡ i) × P b)) (get_or (set rows i v) a 0) in
          let Q : ℕ → Type 0 = λ x. IsRow r.count (λ b. In r i b ⊎ ((i ≡ i) × P b)) x in
          subst R (sym d) (subst Q (sym (get_or-set_same rows i v 0 (omega (arith, p, t, k, l))))
          (row_told r.count (λ b. In r i b ⊎ P b) (λ b. In r i b ⊎ ((i ≡ i) × P b)) v
          (λ b m x. elim x [ inl y ↦ inl y | inr y ↦ inr (refl, y) ]) (λ b m x. elim x [ inl y ↦ inl y | inr y ↦ inr y.1 ])
          (row_or r.count (In r i) P (get_or rows i 0) w (row_of n rows i r e p) h))))
      | inr d ↦ (let Q : ℕ → Type 0 = λ x. IsRow r.count (λ b. In r a b ⊎ ((a ≡ i) × P b)) x in
          subst Q (sym (get_or-set_other rows i a v 0 d))
          (row_told r.count (In r a) (λ b. In r a b ⊎ ((a ≡ i) × P b)) (get_or rows a 0)
          (λ b m x. inl x) (λ b m x. elim x [ inl y ↦ y | inr y ↦ absurd (d y.0) ]) (row_of n rows a r e s)))
    ])

-- One pair more.
pub inserted : (n : ℕ) (rows : List ℕ) (i j : ℕ) (r : Relation) → relation n (bit rows) ≡ r → n ≤ 64 → length rows ≡ 64 → i < r.count → j < r.count →
    IsExactly r.count (λ a b. In r a b ⊎ ((a ≡ i) × (b ≡ j))) (relation n (bit (set rows i (bit_or (get_or rows i 0) (1 * 2 ^ j % 2 ^ 64)))))
inserted n rows i j r e k l p q =
    let t : n ≡ r.count = ap (λ x. x.count) e in
    joined n rows i (1 * 2 ^ j % 2 ^ 64) (λ b. b ≡ j) r e l k p
    (row_told r.count (λ b. j ≡ b) (λ b. b ≡ j) _ (λ b m x. sym x) (λ b m x. sym x) (row_one r.count j (omega (arith, q, t, k))))

-- One row with the events of a set.
pub joined_set : (n : ℕ) (rows : List ℕ) (i m w : ℕ) (P : ℕ → Type 0) (r : Relation) → relation n (bit rows) ≡ r → length rows ≡ 64 → n ≤ 64 → i < r.count → m ≡ r.count → IsRow m P w →
    IsExactly r.count (λ a b. In r a b ⊎ ((a ≡ i) × P b)) (relation n (bit (set rows i (bit_or (get_or rows i 0) w))))
joined_set n rows i m w P r e l k p q h = joined n rows i w P r e l k p (row_at r.count m P w (sym q) h)

stays : (b : Bool) → ((b ≡ true → ⊥) → ⊥) → b ≡ true
stays true f = refl
stays false f = absurd (f (λ e. false≢true e))

-- One word all over.
pub all_over : (n m w : ℕ) (P : ℕ → Type 0) → n ≤ m → IsRow n P w → IsExactly n (λ i j. P j) (relation n (bit (replicate m w)))
all_over n m w P l h =
    relation_of n n (λ i j. P j) (replicate m w) refl
    (λ i a. (let Q : ℕ → Type 0 = λ x. IsRow n P x in subst Q (sym (get_or-replicate m i w 0 (omega (arith, a, l)))) h))

pub built_at : (n m : ℕ) (P : ℕ → ℕ → Type 0) (r : Relation) → m ≡ n → BuildsRows m (λ i w. IsRow n (P i) w) r → IsExactly n P r
built_at n m P r e h = (let Q : ℕ → Type 0 = λ m. BuildsRows m (λ i w. IsRow n (P i) w) r in built n P r (subst Q e h))

pub within_told : (m mask f : ℕ) (r s : Relation) → mask ≡ 2 ^ m - 1 → m ≡ r.count → IsCanonical r → IsRow r.count (λ j. (i : ℕ) × (In r i j × (¬ In s i j))) f →
    ((bit_and f mask == 0) ≡ true) ↔ IsWithin r s
within_told m mask f r s e d t h =
    let x : ((bit_and f mask == 0) ≡ true) ↔ ((j : ℕ) → ((i : ℕ) × (In r i j × (¬ In s i j))) → ⊥) =
    empty_at r.count m mask (λ j. (i : ℕ) × (In r i j × (¬ In s i j))) f e d (λ j p. (pair_below r p.0 j t p.1.0).1) h in (
      λ k i j p. stays (cell s.pairs i j) (λ q. x.0 k j (i, (p, q))),
      λ k. x.1 (λ j p. p.1.1 (k p.0 j p.1.0)),
    )

pub none_told : (m mask f : ℕ) (r : Relation) → mask ≡ 2 ^ m - 1 → m ≡ r.count → IsCanonical r → IsRow r.count (λ j. (i : ℕ) × In r i j) f →
    ((bit_and f mask == 0) ≡ true) ↔ ((i j : ℕ) → In r i j → ⊥)
none_told m mask f r e d t h =
    let x : ((bit_and f mask == 0) ≡ true) ↔ ((j : ℕ) → ((i : ℕ) × In r i j) → ⊥) =
    empty_at r.count m mask (λ j. (i : ℕ) × In r i j) f e d (λ j p. (pair_below r p.0 j t p.1).1) h in (
      λ k i j p. x.0 k j (i, p),
      λ k. x.1 (λ j p. k p.0 j p.1),
    )

-- ---- in place
pub combined : (R : ℕ → ℕ → ℕ → Type 0) (P : ℕ → ℕ → Type 0) (r s t : Relation) → Combines R r s t →
    ((i a b w : ℕ) → R a b w → IsRow r.count (In r i) a → IsRow r.count (In s i) b → IsRow r.count (P i) w) → IsExactly r.count P t
combined R P r s t h f =
    built r.count P t (record {
      count = h.count;
      each = λ i l. (let x : (a : ℕ) × (b : ℕ) × (w : ℕ) × CombinesRow R r s t i a b w = h.each i l in
          (x.2, f i x.0 x.1 x.2 x.3.by x.3.first x.3.second, x.3.cells));
      canonical = h.canonical;
    })

pub combines : (n m k : ℕ) (R : ℕ → ℕ → ℕ → Type 0) (a b c : List ℕ) (r s : Relation) → relation n (bit a) ≡ r → relation m (bit b) ≡ s → r.count ≡ s.count → k ≡ n →
    ((i : ℕ) → i < n → R (get_or a i 0) (get_or b i 0) (get_or c i 0)) → Combines R r s (relation k (bit c))
combines n m k R a b c r s e d q u h =
    let t : n ≡ r.count = ap (λ x. x.count) e in
    let Q : ℕ → Type 0 = λ k. Combines R r s (relation k (bit c)) in
    subst Q (sym (u ∙ t)) (record {
      count = refl;
      each = λ i l. (
        get_or a i 0,
        get_or b i 0,
        get_or c i 0,
        record {
          by = h i (omega (arith, l, t));
          first = row_of n a i r e l;
          second = row_at r.count s.count (In s i) (get_or b i 0) q (row_of m b i s d (omega (arith, l, q)));
          cells = λ j p. cell_square r.count (bit c) i j l p;
        },
      );
      canonical = record { pairs = square_again r.count (bit c) };
    })

pub combined_by : (n : ℕ) (P : ℕ → Type 0) (w v : ℕ) → w ≡ v → IsRow n P v → IsRow n P w
combined_by n P w v e h = (let Q : ℕ → Type 0 = λ w. IsRow n P w in subst Q (sym e) h)

pub through_row : (n m i w mask v : ℕ) (P Q : ℕ → ℕ → Type 0) → n ≡ m → ((k j : ℕ) → Q k j → has_bit mask k ≡ true) → IsRow n (P i) w → IsRow m (λ j. (k : ℕ) × (k < m) × (has_bit (bit_and w mask) k ≡ true) × Q k j) v →
    IsRow n (λ j. (k : ℕ) × (k < n) × P i k × Q k j) v
through_row n m i w mask v P Q e f h g = record {
  only = λ j l b. (let x : (k : ℕ) × (k < m) × (has_bit (bit_and w mask) k ≡ true) × Q k j = g.only j (omega (arith, l, e)) b in
      let s : x.0 < n = omega (arith, x.1, e) in (x.0, s, h.only x.0 s (of_and_bit w mask x.0 x.2).0, x.3));
  all = λ j l x. g.all j (omega (arith, l, e)) (x.0, omega (arith, x.1, e), and_bit w mask x.0 (h.all x.0 x.1 x.2) (f x.0 j x.3), x.3);
}

pub rcount : (n : ℕ) (f : ℕ → ℕ → Bool) (r : Relation) → relation n f ≡ r → n ≡ r.count
rcount n f r e = ap (λ x. x.count) e

-- What is built by the words of a relation is that relation.
pub copied : (n : ℕ) (r t : Relation) → IsCanonical r → n ≡ r.count → BuildsRows n (λ i w. IsRow r.count (In r i) w) t → t ≡ r
copied n r t c e h = one_relation r.count (In r) t r (built_at r.count n (In r) t e h) (record { count = refl; only = λ i j m. m; all = λ i j a b m. m; canonical = c })

-- ---- each event with itself, one by one
pub reflect_begun : (r : Relation) → IsCanonical r → IsExactly r.count (λ i j. In r i j ⊎ ((i ≡ j) × (i < 0))) r
reflect_begun r c = record {
  count = refl;
  only = λ i j m. inl m;
  all = λ i j a b x. elim x [ inl m ↦ m | inr p ↦ absurd (omega (arith, p.1)) ];
  canonical = c;
}

pub reflect_on : (n k : ℕ) (P : ℕ → ℕ → Type 0) (r t : Relation) → IsExactly n (λ i j. P i j ⊎ ((i ≡ j) × (i < k))) r → IsExactly r.count (λ i j. In r i j ⊎ ((i ≡ k) × (j ≡ k))) t → IsExactly n (λ i j. P i j ⊎ ((i ≡ j) × (i < k + 1))) t
reflect_on n k P r t h g = record {
  count = g.count ∙ h.count;
  only = λ i j m. elim (g.only i j m) [
    | inl x ↦ elim (h.only i j x) [ inl p ↦ inl p | inr p ↦ inr (p.0, omega (arith, p.1)) ]
    | inr p ↦ inr (p.0 ∙ sym p.1, omega (arith, p.0))
  ];
  all = λ i j a b x. (let d : i < r.count = omega (arith, a, h.count) in let e : j < r.count = omega (arith, b, h.count) in
      elim x [
        | inl p ↦ g.all i j d e (inl (h.all i j a b (inl p)))
        | inr p ↦ elim (cases_eq i k) [
          | inl y ↦ g.all i j d e (inr (y, sym p.0 ∙ y))
          | inr y ↦ g.all i j d e (inl (h.all i j a b (inr (p.0, omega (arith, p.1, y)))))
        ]
      ]);
  canonical = g.canonical;
}

pub reflected : (n k : ℕ) (P : ℕ → ℕ → Type 0) (r : Relation) → n ≤ k → IsExactly n (λ i j. P i j ⊎ ((i ≡ j) × (i < k))) r → IsExactly n (λ i j. P i j ⊎ (i ≡ j)) r
reflected n k P r l h = record {
  count = h.count;
  only = λ i j m. elim (h.only i j m) [ inl p ↦ inl p | inr p ↦ inr p.0 ];
  all = λ i j a b x. elim x [ inl p ↦ h.all i j a b (inl p) | inr p ↦ h.all i j a b (inr (p, omega (arith, a, l))) ];
  canonical = h.canonical;
}

-- A row of a relation with just the pairs of P tells P.
pub row_exact : (n i w : ℕ) (P : ℕ → ℕ → Type 0) (r : Relation) → i < n → IsExactly n P r → IsRow r.count (In r i) w → IsRow n (P i) w
row_exact n i w P r l h g =
    row_told n (In r i) (P i) w (λ j s x. h.only i j x) (λ j s x. h.all i j l s x) (row_at n r.count (In r i) w (sym h.count) g)

-- A relation without a pair has just the pairs of what relates nothing.
pub none_exact : (n m : ℕ) (P : ℕ → ℕ → Type 0) (r : Relation) → m ≡ n → IsExactly m (λ i j. ⊥) r → ((i j : ℕ) → P i j → ⊥) → IsExactly n P r
none_exact n m P r e h f = record { count = h.count ∙ e; only = λ i j x. absurd (h.only i j x); all = λ i j a b x. absurd (f i j x); canonical = h.canonical }
