-- A relation that is filled beside another, with the pairs turned.
use Rattle.std.proofs.Common.{◌≡◌, ℕ, ◌<◌, ◌⊎◌, sym, ◌∙◌, inl, inr, arith}
use Rattle.relations.specs.Relation.{Relation, In, IsExactly}
use Rattle.relations.specs.Equality.{pair_below}

pub turned_begun : (n m : ℕ) (r t : Relation) → n ≡ m → IsExactly n (λ i j. ⊥) r → IsExactly m (λ i j. ⊥) t → IsExactly r.count (λ i j. In r j i) t
turned_begun n m r t e h k = record {
  count = k.count ∙ sym e ∙ sym h.count;
  only = λ i j x. absurd (k.only i j x);
  all = λ i j a b x. absurd (h.only j i x);
  canonical = k.canonical;
}

-- a pair is put in, and turned
pub turned_more : (from to : ℕ) (r s t u : Relation) → IsExactly r.count (λ i j. In r j i) t → IsExactly r.count (λ a b. In r a b ⊎ ((a ≡ from) × (b ≡ to))) s →
    IsExactly t.count (λ a b. In t a b ⊎ ((a ≡ to) × (b ≡ from))) u → IsExactly s.count (λ i j. In s j i) u
turned_more from to r s t u h k l =
    let same : u.count ≡ r.count = l.count ∙ h.count in
    record {
      count = same ∙ sym k.count;
      only = λ i j x.
          (let b : (i < u.count) × (j < u.count) = pair_below u i j l.canonical x in
          k.all j i (omega (arith, b.1, same)) (omega (arith, b.0, same)) (elim (l.only i j x) [ inl y ↦ inl (h.only i j y) | inr y ↦ inr (y.1, y.0) ]));
      all = λ i j a b x.
          l.all i j (omega (arith, a, k.count, h.count)) (omega (arith, b, k.count, h.count))
          (elim (k.only j i x) [
            | inl y ↦ inl (h.all i j (omega (arith, a, k.count)) (omega (arith, b, k.count)) y)
            | inr y ↦ inr (y.1, y.0)
          ]);
      canonical = l.canonical;
    }
