use Rattle.std.proofs.Common.{◌≡◌, ◌∷◌, ◌∙◌, ◌++◌, ◌+◌, ◌%◌, List, length, take, ap, sym, append-nil, arith}
use Rattle.events.specs.declared.event.EventId.{EventId}
use Rattle.events.specs.declared.event.EventId.TheVariants.{Initial}
use Rattle.listings.specs.Lists.{factorial}
use Rattle.listings.specs.Numbered.{arrange}
use Rattle.candidates.specs.Executions.{later_writes}
use Rattle.candidates.specs.Candidates.{count_orders, order_at}
use Rattle.candidates.proofs.Caps.{digits_more, digits_end}
use Rattle.candidates.proofs.Listed.{written_at}
use Rattle.candidates.proofs.Puts.{cut_behind}
use Rattle.candidates.proofs.ordering.coherence.Goals as goal

pub writes_to-later-requires : goal.writes_to-later-requires
writes_to-later-requires c = (written_at c.args.page.now.runs.items c.args.locations c.loop-location.location c.args.page.now.writes.items c.requires.page.writes_are c.loop-location-test.true).0

pub orders_of-count-requires : goal.orders_of-count-requires
orders_of-count-requires c = (written_at c.args.page.now.runs.items c.args.locations c.loop-location.location c.args.page.now.writes.items c.requires.page.writes_are c.loop-location-test.true).0

pub loop-location-preserved : goal.loop-location-preserved
loop-location-preserved c =
    let runs = c.args.page.now.runs.items in
    let n = c.args.locations in
    let x = c.loop-location.location in
    let w = written_at runs n x c.args.page.now.writes.items c.requires.page.writes_are c.loop-location-test.true in
    let e : c.writes_to-later.result.now ≡ later_writes runs x = c.writes_to-later.ensures ∙ w.1 in
    record {
      is = digits_more (count_orders runs) (order_at runs) n x c.loop-location.rest c.orders_of-count.result (take x c.loop-location.co.items) (take (x + 1) c.put_order.new.co.items) _ (Initial x ∷ arrange c.writes_to-later.result.now (c.loop-location.rest % c.orders_of-count.result))
          (c.orders_of-count.ensures.0 ∙ ap (λ (l : List EventId). factorial (length l)) w.1)
          (ap (λ (l : List EventId). Initial x ∷ arrange l (c.loop-location.rest % c.orders_of-count.result)) e)
          c.loop-location-test.true c.in_ok-put_order.ensures.0 c.loop-location.invariant.is;
      within = omega (arith, c.loop-location-test.true);
      room = omega (arith, c.in_ok-put_order.ensures.1);
    }

pub returns : goal.returns
returns c =
    let runs = c.args.page.now.runs.items in
    let e = digits_end (count_orders runs) (order_at runs) c.args.locations c.loop-location.location c.loop-location.rest c.loop-location-test.false in
    let done = take c.loop-location.location c.loop-location.co.items in
    cut_behind c.loop-location.co.items c.truncate.new.self.items c.loop-location.location c.args.locations c.loop-location.invariant.within (omega (arith, c.loop-location-test.false)) c.truncate.ensures.items
    ∙ sym (append-nil done) ∙ ap (λ xs. done ++ xs) (sym e) ∙ c.loop-location.invariant.is
