use Rattle.std.proofs.Common.{List, sym, subst, ◌∙◌}
use Rattle.std.proofs.lemmas.Bool.{false≢true}
use Rattle.events.specs.declared.event.EventId.{EventId}
use Rattle.listings.specs.Lists.{IsIn}
use Rattle.slices.proofs.Pairing.{order_now}
use Rattle.slices.proofs.Refuting.{found_in}
use Rattle.slices.proofs.rivals.Rivals.have_order.Goals.{then-contains, else-contains}
use Rattle.slices.proofs.rivals.Rivals.have_order.Goals as goal

pub returns-then-contains-2 : goal.returns-then-contains-2
returns-then-contains-2 c t =
    let r = c.args.self in
    let ws = c.writes-writes.result.now in
    let P : List EventId → Type 0 = λ z. IsIn r.source z × IsIn r.first.write z × IsIn r.second.write z in
    let all : P ws = elim c.if-contains.branch [
      | then-contains w ↦ (
        found_in ws r.source (sym c.contains.ensures.value ∙ w.if-contains.true),
        found_in ws r.first.write (sym w.contains-then-contains.ensures.value ∙ sym w.value-is ∙ c.if-contains-2.true),
        found_in ws r.second.write (sym c.contains-then-contains-2.ensures.value ∙ t),
      )
      | else-contains w ↦ absurd (false≢true (sym w.if-contains.false ∙ sym w.value-is ∙ c.if-contains-2.true))
    ] in
    let has = subst P c.writes-writes.ensures all in
    (c.in-Some.order.now, order_now c.args.graph.now.co c.co.result.now r.first.location c.in-Some.order.now c.co.ensures (sym c.in-Some.ensures.lookup.0) c.in-Some.ensures.lookup.1, has.0, has.1, has.2)
