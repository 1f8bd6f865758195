use Rattle.std.proofs.Common.{◌≡◌, ◌∙◌, ◌≤◌, [], ◌∷◌, ◌%◌, List, length, ap, subst, refl, sym, arith}
use Rattle.events.specs.declared.event.EventId.{EventId}
use Rattle.events.specs.declared.event.EventId.TheVariants.{Initial}
use Rattle.listings.specs.Lists.{factorial}
use Rattle.listings.specs.Numbered.{arrange}
use Rattle.candidates.specs.Executions.{later_writes}
use Rattle.candidates.specs.Candidates.{count_orders, order_at}
use Rattle.candidates.proofs.Listed.{written_at}
use Rattle.candidates.proofs.Orders.{old_order, turned_on, turned_to_end}
use Rattle.candidates.proofs.ordering.turn_each.Goals as goal

pub orders_of-count-requires : goal.orders_of-count-requires
orders_of-count-requires c = (written_at c.args.page.now.runs.items c.args.locations c.loop-location.location c.args.page.now.writes.items c.requires.page.writes_are c.loop-location-test.true).0

pub bounds-co-location : goal.bounds-co-location
bounds-co-location c = (old_order c.args.page.now.runs.items c.args.locations c.args.to c.loop-location.location c.loop-location.co c.loop-location.old c.loop-location.new [] c.loop-location-test.true c.loop-location.invariant).0

pub turn_order-requires : goal.turn_order-requires
turn_order-requires c =
    let o = old_order c.args.page.now.runs.items c.args.locations c.args.to c.loop-location.location c.loop-location.co c.loop-location.old c.loop-location.new c.index-co-location.result c.loop-location-test.true c.loop-location.invariant in
    let P : List EventId → Type 0 = λ ws. 1 ≤ length ws in
    subst P (sym o.1) (omega arith)

pub loop-location-preserved : goal.loop-location-preserved
loop-location-preserved c =
    let runs = c.args.page.now.runs.items in
    let n = c.args.locations in
    let at = c.loop-location in
    let x = at.location in
    let count = c.orders_of-count.result in
    let ws = later_writes runs x in
    let w = written_at runs n x c.args.page.now.writes.items c.requires.page.writes_are c.loop-location-test.true in
    let is : count ≡ count_orders runs x = c.orders_of-count.ensures.0 ∙ ap (λ (l : List EventId). factorial (length l)) w.1 in
    let o = old_order runs n c.args.to x at.co at.old at.new c.index-co-location.result c.loop-location-test.true at.invariant in
    let old : c.index-co-location.result ≡ Initial x ∷ arrange ws (at.old % count) = c.index-co-location.is ∙ o.1 ∙ ap (λ k. order_at runs x (at.old % k)) (sym is) in
    turned_on runs n c.args.to x at.co _ at.old at.new count c.turn_order.new.order c.loop-location-test.true is (c.turn_order.ensures (Initial x) ws (sym c.index-co-location.is ∙ old)) refl at.invariant

pub returns-clause-turned : goal.returns-clause-turned
returns-clause-turned c = turned_to_end c.args.page.now.runs.items c.args.locations c.args.to c.loop-location.location c.loop-location.co c.loop-location.old c.loop-location.new c.loop-location-test.false c.loop-location.invariant
