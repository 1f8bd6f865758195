use Rattle.std.proofs.Common.{List, sym, subst, arith}
use Rattle.events.specs.declared.event.EventId.{EventId}
use Rattle.slices.proofs.Chosen.{Chosen, chosen_all, chosen_more, chosen_none, fits_both}
use Rattle.slices.proofs.Picked.{count_some}
use Rattle.slices.proofs.ways.choose.Goals as goal

pub loop-way-init : goal.loop-way-init
loop-way-init c =
    let P : List EventId → Type 0 = λ vs. Chosen c.args.ways.now c.args.number 0 c.args.number 1 vs in
    subst P (sym c.clear.ensures.items) (chosen_none c.args.ways.now c.args.number c.requires)

pub nonzero_rem-place : goal.nonzero_rem-place
nonzero_rem-place c = let some = count_some c.way-item.result in omega (arith, some, c.count-count.ensures)

pub nonzero_div-left : goal.nonzero_div-left
nonzero_div-left c = let some = count_some c.way-item.result in omega (arith, some, c.count-count.ensures)

pub overflow_mul-weight : goal.overflow_mul-weight
overflow_mul-weight c =
    let most = fits_both c.args.ways.now c.args.number c.loop-way.way-index c.loop-way.left c.loop-way.weight c.loop-way.lasts.items c.way-item.result c.weight-weight.result c.loop-way.invariant c.loop-way-test.true c.way-item.is c.weight-weight.ensures.most in
    omega (arith, most)

pub loop-way-preserved : goal.loop-way-preserved
loop-way-preserved c =
    chosen_more c.args.ways.now c.args.number c.loop-way.way-index c.loop-way.left c.loop-way.weight c.loop-way.lasts.items c.push.new.self.items c.way-item.result c.count-count.result c.weight-weight.result _ c.loop-way.invariant c.loop-way-test.true c.way-item.is c.count-count.ensures
    c.weight-weight.ensures.weight c.weight-weight.ensures.most c.weight-weight.ensures.some c.last.ensures c.in_ok-push.ensures.items

pub returns-then-left-gt0-clause-weight : goal.returns-then-left-gt0-clause-weight
returns-then-left-gt0-clause-weight c =
    (chosen_all c.args.ways.now c.args.number c.loop-way.way-index c.loop-way.left c.loop-way.weight c.loop-way.lasts.items c.loop-way.invariant c.loop-way-test.false).1 c.if-left-gt0.true

pub returns-then-left-gt0-clause-lasts : goal.returns-then-left-gt0-clause-lasts
returns-then-left-gt0-clause-lasts c =
    (chosen_all c.args.ways.now c.args.number c.loop-way.way-index c.loop-way.left c.loop-way.weight c.loop-way.lasts.items c.loop-way.invariant c.loop-way-test.false).0

pub returns-clause-weight : goal.returns-clause-weight
returns-clause-weight c =
    (chosen_all c.args.ways.now c.args.number c.loop-way.way-index c.loop-way.left c.loop-way.weight c.loop-way.lasts.items c.loop-way.invariant c.loop-way-test.false).2 c.if-left-gt0.false

pub returns-clause-lasts : goal.returns-clause-lasts
returns-clause-lasts c =
    (chosen_all c.args.ways.now c.args.number c.loop-way.way-index c.loop-way.left c.loop-way.weight c.loop-way.lasts.items c.loop-way.invariant c.loop-way-test.false).0
