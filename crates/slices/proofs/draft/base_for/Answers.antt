use Rattle.std.proofs.Common.{◌^◌, ◌/◌, ◌≤◌, sym, subst, arith}
use Rattle.std.proofs.Math.Nat.{div-mul-le_self}
use Rattle.slices.proofs.Numbered.{at_most_all, base_is, room_of}
use Rattle.slices.proofs.draft.base_for.Goals as goal

pub returns-then-places-lt2 : goal.returns-then-places-lt2
returns-then-places-lt2 c = let l = c.if-places-lt2.true in room_of 32 c.args.places (omega (arith, l))

pub returns : goal.returns
returns c =
    let n = c.args.places in
    let k = 63 / n in
    let l = c.if-places-lt2.false in
    subst (λ b. b ^ n ≤ 2 ^ 63) (sym (base_is k (at_most_all n))) (room_of k n (div-mul-le_self 63 n))
