use Rattle.std.proofs.Common.{ℕ, ◌≡◌, arith, subst, sym, ap, ◌∙◌, ◌-◌, ◌^◌, inl, inr, bit_and}
use Rattle.std.proofs.lemmas.Bool.{cases_eq}
use Rattle.relations.specs.Relation.{In}
use Rattle.relations.specs.Equality.{pair_below}
use Rattle.relations.proofs.Words.{zero_bit, mask_only_at, mask_bit_at, row_empty}
use Rattle.relations.proofs.rel.Rel.leading.Goals as goal

pub loop-i-init : goal.loop-i-init
loop-i-init c = λ m j p. omega arith

pub loop-i-preserved : goal.loop-i-preserved
loop-i-preserved c = λ m j p.
    let mask : ℕ = 2 ^ c.args.self.now.count - 1 in
    let masked : bit_and c.row.result mask ≡ 0 = ap (bit_and c.row.result) (sym (c.below-all.ensures ∙ ap (λ m. 2 ^ m - 1) c.count-count.ensures.is)) ∙ c.if-row-all-ne0.false in
    let R : ℕ → Type 0 = λ m. In c.args.self.now m j in
    elim (cases_eq m c.loop-i.i) [
      | inl e ↦ absurd (row_empty c.args.self.now.count (In c.args.self.now c.loop-i.i) c.row.result c.row.ensures masked j (pair_below c.args.self.now m j c.count-count.ensures.canonical p).1 (subst R e p))
      | inr d ↦ omega (arith, c.loop-i.invariant m j p, d)
    ]

pub returns-then-row-all-ne0-clause-inside : goal.returns-then-row-all-ne0-clause-inside
returns-then-row-all-ne0-clause-inside c = λ m h. mask_only_at c.args.self.now.count c.count-count.result c.below-all.result m c.below-all.ensures c.count-count.ensures.is h

pub returns-then-row-all-ne0-clause-all : goal.returns-then-row-all-ne0-clause-all
returns-then-row-all-ne0-clause-all c = λ m j p. mask_bit_at c.args.self.now.count c.count-count.result c.below-all.result m c.below-all.ensures c.count-count.ensures.is (pair_below c.args.self.now m j c.count-count.ensures.canonical p).0

pub returns-clause-inside : goal.returns-clause-inside
returns-clause-inside c = λ m h. absurd (zero_bit m h)

pub returns-clause-all : goal.returns-clause-all
returns-clause-all c = λ m j p. absurd (omega (arith, c.loop-i.invariant m j p, (pair_below c.args.self.now m j c.count-count.ensures.canonical p).0, c.loop-i-test.false, c.count-count.ensures.is))
