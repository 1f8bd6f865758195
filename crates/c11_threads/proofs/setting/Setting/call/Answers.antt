use Rattle.std.proofs.Common.{sym, subst}
use Rattle.litmus_tree.specs.declared.tree.Call.{Call}
use Rattle.litmus_tree.specs.Tree.{action_of}
use Rattle.c11_threads.specs.Unrolled.{call_runs}
use Rattle.c11_threads.specs.Ways.{Adds}
use Rattle.c11_threads.proofs.setting.Setting.call.Goals as goal

pub returns-in-Load : goal.returns-in-Load
returns-in-Load c =
    let P : Call → Type 0 = λ a. Adds (call_runs c.args.self.now (action_of a) c.args.register c.args.from) c.args.ends.now c.read_each.new.ends c.read_each.result in
    subst P (sym c.in-Load.is) (rw (c.load-load.ensures) at c.read_each.ensures)

pub returns-in-Store : goal.returns-in-Store
returns-in-Store c =
    let P : Call → Type 0 = λ a. Adds (call_runs c.args.self.now (action_of a) c.args.register c.args.from) c.args.ends.now c.happen.new.ends c.happen.result in
    subst P (sym c.in-Store.is) (rw (c.access-write.ensures, c.content-content.ensures) at c.happen.ensures)

pub returns-in-Exchange : goal.returns-in-Exchange
returns-in-Exchange c =
    let P : Call → Type 0 = λ a. Adds (call_runs c.args.self.now (action_of a) c.args.register c.args.from) c.args.ends.now c.read_each-in-Exchange.new.ends c.read_each-in-Exchange.result in
    subst P (sym c.in-Exchange.is) (rw (c.update-update.ensures, c.access-write-in-Exchange.ensures, c.content-content-in-Exchange.ensures) at c.read_each-in-Exchange.ensures)

pub returns-in-Modify : goal.returns-in-Modify
returns-in-Modify c =
    let P : Call → Type 0 = λ a. Adds (call_runs c.args.self.now (action_of a) c.args.register c.args.from) c.args.ends.now c.read_each-in-Modify.new.ends c.read_each-in-Modify.result in
    subst P (sym c.in-Modify.is) (rw (c.update-update-in-Modify.ensures, c.unwritten-write.ensures) at c.read_each-in-Modify.ensures)

pub returns-in-Fence : goal.returns-in-Fence
returns-in-Fence c =
    let P : Call → Type 0 = λ a. Adds (call_runs c.args.self.now (action_of a) c.args.register c.args.from) c.args.ends.now c.happen-in-Fence.new.ends c.happen-in-Fence.result in
    subst P (sym c.in-Fence.is) (rw (c.fence.ensures) at c.happen-in-Fence.ensures)
