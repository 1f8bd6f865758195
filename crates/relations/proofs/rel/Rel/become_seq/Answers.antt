use Rattle.std.proofs.Common.{◌≡◌, true, ℕ, subst}
use Rattle.relations.specs.Words.{has_bit}
use Rattle.relations.proofs.Words.{zero_bit}
use Rattle.relations.proofs.Relations.{built_at, none_exact}
use Rattle.relations.proofs.rel.Rel.become_seq.Goals as goal

pub returns-then-mask-eq0 : goal.returns-then-mask-eq0
returns-then-mask-eq0 c =
    none_exact _ _ _ _ c.count.ensures.is c.become_empty.ensures (λ i j x.
    (let R : ℕ → Type 0 = λ w. has_bit w x.0 ≡ true in zero_bit x.0 (subst R c.if-mask-eq0.true (c.leading-mask.ensures.all x.0 j x.3))))

pub returns : goal.returns
returns c = built_at _ _ _ _ c.count-2.ensures.is c.fill.ensures
