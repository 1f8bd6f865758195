use Rattle.std.proofs.Common.{◌≡◌, ◌-◌, ◌+◌, ◌++◌, ◌/◌, ◌∙◌, ◌<◌, List, length, nat_lt, ap, sym, refl, arith}
use Rattle.std.specs.List.{filter}
use Rattle.events.specs.declared.event.EventId.{EventId}
use Rattle.candidates.specs.declared.depths.Depth.{Depth}
use Rattle.candidates.specs.declared.depths.Known.TheVariants.{Orders}
use Rattle.candidates.specs.Blocks.{ways_of_orders}
use Rattle.candidates.specs.Depths.{by_places, is_open, known_of}
use Rattle.candidates.specs.Executions.{later_writes, upto}
use Rattle.candidates.proofs.Deeper.{placing_more, placing_end}
use Rattle.candidates.proofs.Listed.{written_at}
use Rattle.candidates.proofs.Sizes.{next_open, one_placed, one_depth, placing_depth}
use Rattle.candidates.proofs.depths.push_order.Goals as goal

pub writes_to-writes-requires : goal.writes_to-writes-requires
writes_to-writes-requires c = (written_at c.args.page.now.runs.items c.args.locations c.args.location c.args.page.now.writes.items c.requires.page.writes_are c.requires.location).0

pub loop-unplaced-init : goal.loop-unplaced-init
loop-unplaced-init c =
    let runs = c.args.page.now.runs.items in
    let w = written_at runs c.args.locations c.args.location c.args.page.now.writes.items c.requires.page.writes_are c.requires.location in
    let e = c.writes_to-writes.ensures ∙ w.1 in
    record {
      within = omega (arith, c.saturating_sub-unplaced.ensures);
      size = next_open c.args.locations runs c.args.location c.args.orders c.requires.location c.requires.orders
          ∙ ap (λ (ws : List EventId). ways_of_orders runs c.args.location (length ws - 1) (upto c.args.locations)) (sym e)
          ∙ ap (λ k. ways_of_orders runs c.args.location k (upto c.args.locations)) (sym c.saturating_sub-unplaced.ensures);
      depths = c.requires.depths;
      known = ap (λ k. known_of c.args.depths.now.items ++ filter (is_open c.args.locations runs) (by_places c.args.location k)) (c.saturating_sub-unplaced.ensures ∙ ap (λ (ws : List EventId). length ws - 1) e);
    }

pub loop-unplaced-preserved : goal.loop-unplaced-preserved
loop-unplaced-preserved c =
    let runs = c.args.page.now.runs.items in
    let n = c.args.locations in
    let x = c.args.location in
    let at = c.loop-unplaced in
    let k = at.unplaced - 1 in
    let writes = length c.writes_to-writes.result.now in
    let w = written_at runs n x c.args.page.now.writes.items c.requires.page.writes_are c.requires.location in
    let many : writes ≡ length (later_writes runs x) = ap (λ (ws : List EventId). length ws) (c.writes_to-writes.ensures ∙ w.1) in
    let one : at.unplaced ≡ k + 1 = omega (arith, c.loop-unplaced-test.true) in
    let below : k < length (later_writes runs x) = omega (arith, c.loop-unplaced-test.true, at.invariant.within, many) in
    let size : at.size / (writes - k) ≡ ways_of_orders runs x k (upto n) =
    one_placed n runs x k at.size (writes - k) c.requires.location below (at.invariant.size ∙ ap (λ z. ways_of_orders runs x z (upto n)) one) (ap (λ z. z - k) many) in
    let d : Depth = record { size = at.size / (writes - k); known = Orders (record { locations = x; writes = k }) } in
    let depth = placing_depth n runs x k (at.size / (writes - k)) c.requires.location (omega (arith, below)) size in
    record {
      within = omega (arith, at.invariant.within);
      size = size;
      depths = one_depth n runs at.depths.items c.push_depth.new.depths.items d (nat_lt 1 d.size) c.in_ok-push_depth.ensures depth at.invariant.depths;
      known = placing_more n runs at.depths.items c.push_depth.new.depths.items d x k at.unplaced _ one depth refl c.in_ok-push_depth.ensures at.invariant.known;
    }

pub returns-clause-known : goal.returns-clause-known
returns-clause-known c = placing_end c.args.locations c.args.page.now.runs.items c.loop-unplaced.depths.items c.args.location c.loop-unplaced.unplaced _ (omega (arith, c.loop-unplaced-test.false)) c.loop-unplaced.invariant.known
