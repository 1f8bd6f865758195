use Rattle.std.proofs.Common.{◌≤◌, inl, inr, arith}
use Rattle.std.proofs.Math.Nat.{eq-zero-or-pos}
use Rattle.slices.proofs.Chosen.{rest_is}
use Rattle.slices.proofs.ways.Shares.of.Goals as goal

pub overflow_mul-result : goal.overflow_mul-result
overflow_mul-result c =
    let n = c.args.writes in
    let k = c.args.opened in
    let some : 1 ≤ k = elim (eq-zero-or-pos k) [ inl z ↦ absurd (c.if-opened-eq0.false z) | inr p ↦ p ] in
    let most = (rest_is n k c.placings-share.result some c.requires.within c.placings-share.ensures).2 in
    let few = c.requires.few in
    omega (arith, most, few)
