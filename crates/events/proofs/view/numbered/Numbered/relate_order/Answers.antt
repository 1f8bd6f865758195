use Rattle.std.proofs.Common.{◌≡◌, ◌+◌, ◌-◌, ℕ, arith, refl, subst, length, get_or}
use Rattle.listings.specs.Lists.{StandsAt}
use Rattle.relations.specs.Events.{IsExactlySet}
use Rattle.events.specs.Named.{event_count}
use Rattle.events.specs.declared.event.EventId.TheVariants.{Initial}
use Rattle.events.proofs.Standing.{stands_or}
use Rattle.events.proofs.Adding.{behind_begun, order_begun, behind_on, order_on}
use Rattle.events.proofs.view.numbered.Numbered.relate_order.Goals as goal

pub loop-place-init : goal.loop-place-init
loop-place-init c =
    let n = event_count c.args.self.now in
    let P : ℕ → Type 0 = λ k. IsExactlySet k (λ i. ⊥) c.empty-behind.result in (
      omega arith,
      behind_begun n c.args.self.now c.args.order.now (length c.args.order.now) c.empty-behind.result refl (subst P c.count.ensures.is c.empty-behind.ensures),
      order_begun n c.args.self.now c.args.order.now (length c.args.order.now) c.args.rel.now refl c.requires.count c.requires.canonical,
    )

pub loop-place-preserved : goal.loop-place-preserved
loop-place-preserved c =
    let n = event_count c.args.self.now in
    let p = c.loop-place.place - 1 in
    let q : c.loop-place.place ≡ p + 1 = omega (arith, c.loop-place-test.true) in
    let e = get_or c.args.order.now p (Initial 0) in
    let at : StandsAt c.args.order.now p e = stands_or c.args.order.now p (Initial 0) e (omega (arith, q, c.loop-place.invariant.0)) refl in (
      omega (arith, c.loop-place.invariant.0),
      behind_on n c.args.self.now c.args.order.now p c.loop-place.place e c.loop-place.behind c.relate_behind.new.behind q at c.loop-place.invariant.1 c.relate_behind.ensures.behind,
      order_on n c.args.self.now c.args.order.now p c.loop-place.place e c.loop-place.behind c.args.rel.now c.loop-place.rel c.relate_behind.new.rel q at c.loop-place.invariant.1
          c.loop-place.invariant.2 c.relate_behind.ensures.rel,
    )
