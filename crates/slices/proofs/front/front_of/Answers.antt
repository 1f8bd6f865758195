use Rattle.std.proofs.Common.{◌≡◌, ◌∙◌, suc, ◌+◌, ◌-◌, sym, arith}
use Rattle.std.proofs.lemmas.Grind.{common_steps}
use Rattle.slices.proofs.Fronts.{digit_put, next_small}
use Rattle.slices.proofs.front.front_of.Goals as goal

pub overflow_mul-front : goal.overflow_mul-front
overflow_mul-front c =
    let small = next_small (16 - c.loop-place._place) c.loop-place.front c.loop-place.rest.now c.args.values.now (grind (arith, common_steps)) c.loop-place.invariant in
    omega (arith, small)

pub overflow_add-front : goal.overflow_add-front
overflow_add-front c =
    let small = next_small (16 - c.loop-place._place) c.loop-place.front c.loop-place.rest.now c.args.values.now (grind (arith, common_steps)) c.loop-place.invariant in
    omega (arith, small, c.digit.ensures)

pub loop-place-preserved : goal.loop-place-preserved
loop-place-preserved c =
    let left : 16 - c.loop-place._place ≡ suc (16 - (c.loop-place._place + 1)) = grind (arith, common_steps) in
    let put = digit_put (16 - c.loop-place._place) (16 - (c.loop-place._place + 1)) c.loop-place.front c.loop-place.rest.now left in
    rw (c.digit.ensures, c.behind-rest.ensures) (sym put ∙ c.loop-place.invariant)
