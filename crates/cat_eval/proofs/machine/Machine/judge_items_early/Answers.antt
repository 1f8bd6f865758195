use Rattle.std.proofs.Common.{ℕ, Option, option_map, true, false, refl, rules, map}
use Rattle.cat_tree.specs.Tree.{Word}
use Rattle.events.specs.Named.{event_count}
use Rattle.cat_eval.specs.Code.{entries_of, planned_clause}
use Rattle.cat_eval.specs.CoreMeaning.{Under}
use Rattle.cat_eval.specs.CoreJudging.{Names, Permits, RaisedBy}
use Rattle.cat_eval.specs.Judging.{Allowed, Raised}
use Rattle.cat_eval.specs.Machine.{clauses_of}
use Rattle.cat_eval.proofs.Lawful.{forbidden_is, no_flag_told, kept, flag_told, nothing_told, flags_told}
use Rattle.cat_eval.proofs.Running.{ran_less}
use Rattle.cat_eval.proofs.Reaching.{reached_none, reached_next, reached_more, spoken_done, forbidden_at}
use Rattle.cat_eval.proofs.Turns.{turn, due, settled_made, settled_says}
use Rattle.cat_eval.proofs.machine.Machine.judge_items_early.Goals as goal

pub loop-item-init : goal.loop-item-init
loop-item-init c = record {
  machine = c.requires.machine;
  reached = (
    c.requires.code.speaks,
    reached_none c.args.self.now.view.now c.args.self.now.code.steps.now c.args.self.now.code.items.now c.requires.code.speaks.cores c.args.values.now c.new-flags.result.items c.requires.code.speaks.plan
        c.requires.code.speaks.model c.new-flags.ensures.items,
  );
}

pub weigh-weighed-requires : goal.weigh-weighed-requires
weigh-weighed-requires c =
    let g = c.args.self.now.view.now in
    let ss = c.args.self.now.code.steps.now in
    let ps = c.args.self.now.code.items.now in
    let spoken = c.loop-item.invariant.reached.0 in
    let cs = spoken.cores in
    let end = spoken.plan.end in
    let r = c.loop-item.invariant.reached.1 in
    record {
      machine = c.loop-item.invariant.machine;
      turn = turn c.args.self.now ps cs c.loop-item.values c.loop-item.item-index c.item-item.result r.names r.last_names end (
          reached_next g ss ps cs end c.loop-item.values c.loop-item.item-index true c.loop-item.flags.items c.item-item.result r c.loop-item-test.true c.item-item.is);
    }

pub add_raised-requires : goal.add_raised-requires
add_raised-requires c = c.loop-item.invariant.reached.1.so_far.once

pub loop-item-preserved-then-is_settled : goal.loop-item-preserved-then-is_settled
loop-item-preserved-then-is_settled c =
    let g = c.args.self.now.view.now in
    let ss = c.args.self.now.code.steps.now in
    let ps = c.args.self.now.code.items.now in
    let vs = c.loop-item.values in
    let item = c.item-item.result in
    let machine = c.loop-item.invariant.machine in
    let spoken = c.loop-item.invariant.reached.0 in
    let cs = spoken.cores in
    let end = spoken.plan.end in
    let r = c.loop-item.invariant.reached.1 in
    let next = reached_next g ss ps cs end vs c.loop-item.item-index true c.loop-item.flags.items item r c.loop-item-test.true c.item-item.is in
    let its = due c.args.self.now ps cs vs c.loop-item.item-index item r.names r.last_names end next in
    let settled = c.is_settled.ensures.0 c.if-is_settled.true in
    let made = settled_made c.args.self.now vs c.loop-item.made item machine settled in
    let said = settled_says c.args.self.now vs c.loop-item.made item settled in
    record {
      machine = machine;
      reached = (
        spoken,
        reached_more g ss ps cs end vs vs c.loop-item.item-index true true c.loop-item.flags.items c.loop-item.flags.items
            item r next made.same (ran_less g ss vs c.loop-item.made item.to made.reached machine.ran) (made.binds r.names next.item_core its)
            (kept true true true (Permits (event_count g) (Under (Names g) (entries_of r.names vs)) next.item_core) refl refl (said.permits r.names next.item_core its))
            r.so_far.once
            (nothing_told c.loop-item.flags.items (RaisedBy (event_count g) (Under (Names g) (entries_of r.names vs)) next.item_core) (said.raised r.names next.item_core its)),
      );
    }

pub loop-item-preserved : goal.loop-item-preserved
loop-item-preserved c =
    let g = c.args.self.now.view.now in
    let ss = c.args.self.now.code.steps.now in
    let ps = c.args.self.now.code.items.now in
    let spoken = c.loop-item.invariant.reached.0 in
    let cs = spoken.cores in
    let end = spoken.plan.end in
    let r = c.loop-item.invariant.reached.1 in
    let next = reached_next g ss ps cs end c.loop-item.values c.loop-item.item-index true c.loop-item.flags.items c.item-item.result r c.loop-item-test.true c.item-item.is in
    let n : ℕ = event_count g in
    let E : Word → _ → Type 0 = Under (Names g) (entries_of r.names c.loop-item.values) in
    let flagged : Option Word = option_map (λ f. f.now) c.weigh-weighed.result.raised in
    let its = due c.args.self.now ps cs c.loop-item.values c.loop-item.item-index c.item-item.result r.names r.last_names end next in
    let made = c.weigh-weighed.ensures.made in
    let permits = c.weigh-weighed.ensures.said.permits r.names next.item_core its in
    let raised = c.weigh-weighed.ensures.said.raised r.names next.item_core its in
    record {
      machine = made.machine;
      reached = (
        spoken,
        reached_more g ss ps cs end c.loop-item.values c.weigh-weighed.new.values c.loop-item.item-index true true c.loop-item.flags.items c.add_raised.new.names.items
            c.item-item.result r next made.same (ran_less g ss c.weigh-weighed.new.values c.weigh-weighed.new.made c.item-item.result.to made.reached made.machine.ran) (made.binds r.names next.item_core its)
            (kept true c.weigh-weighed.result.permits true (Permits n E next.item_core) c.if-not-weighed.false refl permits)
            c.add_raised.ensures.once
            (flag_told c.loop-item.flags.items c.add_raised.new.names.items flagged (RaisedBy n E next.item_core) c.in_ok-add_raised.ensures.added raised),
      );
    }

pub returns-then-not-weighed-clause-machine : goal.returns-then-not-weighed-clause-machine
returns-then-not-weighed-clause-machine c = c.weigh-weighed.ensures.made.machine

pub returns-then-not-weighed-clause-allowed : goal.returns-then-not-weighed-clause-allowed
returns-then-not-weighed-clause-allowed c =
    let g = c.args.self.now.view.now in
    let absent = c.args.self.now.code.absent.now in
    let ss = c.args.self.now.code.steps.now in
    let ps = c.args.self.now.code.items.now in
    let spoken = c.loop-item.invariant.reached.0 in
    let cs = spoken.cores in
    let end = spoken.plan.end in
    let r = c.loop-item.invariant.reached.1 in
    let next = reached_next g ss ps cs end c.loop-item.values c.loop-item.item-index true c.loop-item.flags.items c.item-item.result r c.loop-item-test.true c.item-item.is in
    let its = due c.args.self.now ps cs c.loop-item.values c.loop-item.item-index c.item-item.result r.names r.last_names end next in
    forbidden_is false (Allowed (map planned_clause ps) g) refl
    (forbidden_at g absent ss ps c.loop-item.values c.loop-item.item-index c.loop-item.flags.items c.item-item.result c.weigh-weighed.result.permits spoken c.requires.absent r next c.if-not-weighed.true (c.weigh-weighed.ensures.said.permits r.names next.item_core its))

pub returns-then-not-weighed-clause-flags : goal.returns-then-not-weighed-clause-flags
returns-then-not-weighed-clause-flags c =
    let g = c.args.self.now.view.now in
    let absent = c.args.self.now.code.absent.now in
    let ss = c.args.self.now.code.steps.now in
    let ps = c.args.self.now.code.items.now in
    let spoken = c.loop-item.invariant.reached.0 in
    let cs = spoken.cores in
    let end = spoken.plan.end in
    let r = c.loop-item.invariant.reached.1 in
    let next = reached_next g ss ps cs end c.loop-item.values c.loop-item.item-index true c.loop-item.flags.items c.item-item.result r c.loop-item-test.true c.item-item.is in
    let its = due c.args.self.now ps cs c.loop-item.values c.loop-item.item-index c.item-item.result r.names r.last_names end next in
    let told = no_flag_told (Allowed (map planned_clause ps) g) (Raised (map planned_clause ps) g)
    (forbidden_at g absent ss ps c.loop-item.values c.loop-item.item-index c.loop-item.flags.items c.item-item.result c.weigh-weighed.result.permits spoken c.requires.absent r next c.if-not-weighed.true (c.weigh-weighed.ensures.said.permits r.names next.item_core its)) in
    search (rules, told)

pub returns-in_err-add_raised-clause-machine : goal.returns-in_err-add_raised-clause-machine
returns-in_err-add_raised-clause-machine c = c.weigh-weighed.ensures.made.machine

pub returns-clause-machine : goal.returns-clause-machine
returns-clause-machine c = c.loop-item.invariant.machine

pub returns-clause-allowed : goal.returns-clause-allowed
returns-clause-allowed c =
    let code = c.args.self.now.code in
    let r = c.loop-item.invariant.reached in
    let told = spoken_done c.args.self.now.view.now code.absent.now code.steps.now code.items.now c.loop-item.values c.loop-item.item-index c.loop-item.flags.items r.0 c.requires.absent c.loop-item-test.false r.1 in
    (λ t. told.0, λ a. refl)

pub returns-clause-flags : goal.returns-clause-flags
returns-clause-flags c =
    let code = c.args.self.now.code in
    let g = c.args.self.now.view.now in
    let r = c.loop-item.invariant.reached in
    flags_told (Allowed (clauses_of code) g) (Raised (clauses_of code) g) c.loop-item.flags.items
    (spoken_done g code.absent.now code.steps.now code.items.now c.loop-item.values c.loop-item.item-index c.loop-item.flags.items r.0 c.requires.absent c.loop-item-test.false r.1)
