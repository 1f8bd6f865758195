use Rattle.std.proofs.Common.{◌-◌, ◌∙◌, refl, sym, arith}
use Rattle.candidates.proofs.Deeper.{location_more, location_end}
use Rattle.candidates.proofs.Sizes.{all_open}
use Rattle.candidates.proofs.depths.push_orders.Goals as goal

pub loop-location-init : goal.loop-location-init
loop-location-init c = record {
  within = omega arith;
  orders = c.requires.page.orders ∙ sym (all_open c.args.locations c.args.page.now.runs.items);
  depths = c.requires.depths;
  known = refl;
}

pub loop-location-preserved : goal.loop-location-preserved
loop-location-preserved c =
    let at = c.loop-location in
    record {
      within = omega (arith, at.invariant.within);
      orders = c.in_ok-orders.ensures.orders;
      depths = c.in_ok-orders.ensures.depths;
      known = location_more c.args.locations c.args.page.now.runs.items at.depths.items c.push_order.new.depths.items (at.location - 1) at.location _ (omega (arith, c.loop-location-test.true)) c.in_ok-orders.ensures.known at.invariant.known;
    }

pub returns-clause-known : goal.returns-clause-known
returns-clause-known c = location_end c.args.locations c.args.page.now.runs.items c.loop-location.depths.items c.loop-location.location _ (omega (arith, c.loop-location-test.false)) c.loop-location.invariant.known
