use Rattle.std.proofs.Common.{◌≡◌, ◌+◌, ◌-◌, ℕ, arith, refl, subst, length, get_or, ap, drop, []}
use Rattle.std.proofs.Math.ListN.{drop_of_length-le}
use Rattle.listings.specs.Lists.{StandsAt}
use Rattle.relations.specs.Events.{IsExactlySet}
use Rattle.events.specs.Cuts.{placed}
use Rattle.events.specs.Named.{event_count}
use Rattle.events.specs.declared.event.EventId.TheVariants.{Initial}
use Rattle.events.proofs.Standing.{stands_or}
use Rattle.events.proofs.Cutting.{behind_further, order_further, no_numbers, no_pairs}
use Rattle.events.proofs.view.numbered.Numbered.relate_placed.Goals as goal

pub loop-place-init : goal.loop-place-init
loop-place-init c =
    let g = c.args.self.now in
    let n = event_count g in
    let order = c.args.order.now in
    let P : ℕ → Type 0 = λ k. IsExactlySet k (λ i. ⊥) c.empty-behind.result in
    let none : placed c.args.unplaced.now (drop (length order) order) ≡ [] = ap (placed c.args.unplaced.now) (drop_of_length-le order (omega arith)) in
    record {
      inside = omega arith;
      behind = no_numbers n g _ c.empty-behind.result none (subst P c.count.ensures.is c.empty-behind.ensures);
      rel = no_pairs n g _ c.args.rel.now none c.requires.count c.requires.canonical;
    }

pub loop-place-preserved : goal.loop-place-preserved
loop-place-preserved c =
    let g = c.args.self.now in
    let n = event_count g in
    let ws = c.args.unplaced.now in
    let order = c.args.order.now in
    let p = c.loop-place.place - 1 in
    let q : c.loop-place.place ≡ p + 1 = omega (arith, c.loop-place-test.true) in
    let e = get_or order p (Initial 0) in
    let at : StandsAt order p e = stands_or order p (Initial 0) e (omega (arith, q, c.loop-place.invariant.inside)) refl in
    record {
      inside = omega (arith, c.loop-place.invariant.inside);
      behind = behind_further n g ws order p c.loop-place.place e c.numbers_of-without.result c.loop-place.behind c.relate_unless.new.behind q at c.numbers_of-without.ensures c.loop-place.invariant.behind c.relate_unless.ensures.behind refl;
      rel = order_further n g ws order p c.loop-place.place e c.numbers_of-without.result c.loop-place.behind c.args.rel.now c.loop-place.rel c.relate_unless.new.rel q at c.numbers_of-without.ensures c.loop-place.invariant.behind
          c.loop-place.invariant.rel c.relate_unless.ensures.rel refl;
    }
