use Rattle.std.proofs.Common.{◌≡◌, ◌∙◌, ◌*◌, ◌+◌, drop, refl, ap, arith}
use Rattle.listings.specs.Lists.{product_by}
use Rattle.candidates.specs.Readings.{orders_among}
use Rattle.candidates.proofs.Caps.{taken_factor, factor_le, product_positive, some_order}
use Rattle.candidates.proofs.assembly.count_orders.Goals as goal

pub overflow_mul-product : goal.overflow_mul-product
overflow_mul-product c =
    let ls = c.args.writes.now in
    let i = c.loop-later.later-index in
    let q = c.loop-later.product * c.orders-product.result in
    let e : q * product_by orders_among (drop (i + 1) ls) ≡ product_by orders_among ls = taken_factor orders_among ls i c.later-item.result c.loop-later.product c.orders-product.result q (c.orders-product.ensures.0 ∙ ap orders_among c.later-item.is) c.loop-later-test.true c.loop-later.invariant refl in
    omega (arith, e, factor_le q (product_by orders_among (drop (i + 1) ls)) (product_positive orders_among some_order (drop (i + 1) ls)), c.requires)

pub loop-later-preserved : goal.loop-later-preserved
loop-later-preserved c =
    taken_factor orders_among c.args.writes.now c.loop-later.later-index c.later-item.result c.loop-later.product c.orders-product.result _ (c.orders-product.ensures.0 ∙ ap orders_among c.later-item.is) c.loop-later-test.true c.loop-later.invariant refl
