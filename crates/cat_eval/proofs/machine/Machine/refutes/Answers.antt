use Rattle.std.proofs.Common.{◌≡◌, get_or, ap, arith}
use Rattle.cat_eval.specs.declared.plan.PlannedItem.{PlannedItem}
use Rattle.cat_eval.proofs.Refuted.{standing_none, standing_next, standing_more, refuted_at}
use Rattle.cat_eval.proofs.Running.{ran_less}
use Rattle.cat_eval.proofs.Turns.{turn, due, settled_made}
use Rattle.cat_eval.proofs.machine.Machine.refutes.Goals as goal

pub loop-number-init : goal.loop-number-init
loop-number-init c = record {
  machine = c.requires.machine;
  standing = standing_none c.args.self.now.view.now c.args.self.now.code.absent.now c.args.self.now.code.steps.now c.args.self.now.code.items.now c.args.growths.now c.args.values.now
      (record { sets = c.extension.ensures.sets; stay = c.extension.ensures.stay; grow = c.extension.ensures.grow; decided_sets = c.opening.ensures.sets; decided = c.opening.ensures.relations })
      c.requires.code.speaks c.requires.code.runs c.requires.absent;
}

pub weigh-weighed-requires : goal.weigh-weighed-requires
weigh-weighed-requires c =
    let g = c.args.self.now.view.now in
    let ss = c.args.self.now.code.steps.now in
    let ps = c.args.self.now.code.items.now in
    let r = c.loop-number.invariant.standing in
    let item : PlannedItem = get_or ps c.loop-number.number c.index-self-number.result in
    let is : item ≡ get_or ps c.loop-number.number item = ap (λ (x : PlannedItem). get_or ps c.loop-number.number x) c.index-self-number.is in
    let next = standing_next g ss ps c.args.growths.now c.loop-number.values c.loop-number.number item r (omega (arith, c.loop-number-test.true, c.requires.count)) is in
    record {
      machine = c.loop-number.invariant.machine;
      turn = turn c.args.self.now ps r.cores c.loop-number.values c.loop-number.number item r.names r.last_names r.last_place next;
    }

pub loop-number-preserved-then-is_settled : goal.loop-number-preserved-then-is_settled
loop-number-preserved-then-is_settled c =
    let g = c.args.self.now.view.now in
    let ss = c.args.self.now.code.steps.now in
    let ps = c.args.self.now.code.items.now in
    let vs = c.loop-number.values in
    let machine = c.loop-number.invariant.machine in
    let r = c.loop-number.invariant.standing in
    let item : PlannedItem = get_or ps c.loop-number.number c.index-self-number.result in
    let is : item ≡ get_or ps c.loop-number.number item = ap (λ (x : PlannedItem). get_or ps c.loop-number.number x) c.index-self-number.is in
    let next = standing_next g ss ps c.args.growths.now vs c.loop-number.number item r (omega (arith, c.loop-number-test.true, c.requires.count)) is in
    let its = due c.args.self.now ps r.cores vs c.loop-number.number item r.names r.last_names r.last_place next in
    let made = settled_made c.args.self.now vs c.loop-number.made item machine (c.is_settled.ensures.0 c.if-is_settled.true) in
    record {
      machine = machine;
      standing = standing_more g ss ps c.args.growths.now vs vs c.loop-number.number item r next c.requires.grown (omega (arith, c.loop-number-test.true, c.requires.count)) is
          made.same (ran_less g ss vs c.loop-number.made item.to made.reached machine.ran) (made.binds r.names next.item_core its);
    }

pub loop-number-preserved : goal.loop-number-preserved
loop-number-preserved c =
    let g = c.args.self.now.view.now in
    let ss = c.args.self.now.code.steps.now in
    let ps = c.args.self.now.code.items.now in
    let r = c.loop-number.invariant.standing in
    let item : PlannedItem = get_or ps c.loop-number.number c.index-self-number.result in
    let is : item ≡ get_or ps c.loop-number.number item = ap (λ (x : PlannedItem). get_or ps c.loop-number.number x) c.index-self-number.is in
    let next = standing_next g ss ps c.args.growths.now c.loop-number.values c.loop-number.number item r (omega (arith, c.loop-number-test.true, c.requires.count)) is in
    let its = due c.args.self.now ps r.cores c.loop-number.values c.loop-number.number item r.names r.last_names r.last_place next in
    let made = c.weigh-weighed.ensures.made in
    record {
      machine = made.machine;
      standing = standing_more g ss ps c.args.growths.now c.loop-number.values c.weigh-weighed.new.values c.loop-number.number item r next c.requires.grown (omega (arith, c.loop-number-test.true, c.requires.count)) is
          made.same (ran_less g ss c.weigh-weighed.new.values c.weigh-weighed.new.made item.to made.reached made.machine.ran) (made.binds r.names next.item_core its);
    }

pub returns-then-tells-clause-machine : goal.returns-then-tells-clause-machine
returns-then-tells-clause-machine c = c.weigh-weighed.ensures.made.machine

pub returns-then-tells-clause-refuted : goal.returns-then-tells-clause-refuted
returns-then-tells-clause-refuted c =
    let g = c.args.self.now.view.now in
    let ss = c.args.self.now.code.steps.now in
    let ps = c.args.self.now.code.items.now in
    let r = c.loop-number.invariant.standing in
    let item : PlannedItem = get_or ps c.loop-number.number c.index-self-number.result in
    let is : item ≡ get_or ps c.loop-number.number item = ap (λ (x : PlannedItem). get_or ps c.loop-number.number x) c.index-self-number.is in
    let next = standing_next g ss ps c.args.growths.now c.loop-number.values c.loop-number.number item r (omega (arith, c.loop-number-test.true, c.requires.count)) is in
    let its = due c.args.self.now ps r.cores c.loop-number.values c.loop-number.number item r.names r.last_names r.last_place next in
    refuted_at g ss ps c.args.growths.now c.loop-number.values c.loop-number.number item c.weigh-weighed.result.permits r next c.requires.grown
    c.if-not-weighed.true (c.weigh-weighed.ensures.said.permits r.names next.item_core its) (c.tells.ensures c.if-tells.true)

pub returns-clause-machine : goal.returns-clause-machine
returns-clause-machine c = c.loop-number.invariant.machine
