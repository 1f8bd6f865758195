use Rattle.std.proofs.Common.{sym, subst}
use Rattle.litmus_tree.specs.declared.tree.RightSide.{RightSide}
use Rattle.litmus_tree.specs.Tree.{right_of}
use Rattle.c11_threads.specs.Unrolled.{right_runs}
use Rattle.c11_threads.specs.Ways.{Adds}
use Rattle.c11_threads.proofs.setting.Setting.assign.Goals as goal

pub returns-in-Value : goal.returns-in-Value
returns-in-Value c =
    let P : RightSide → Type 0 = λ b. Adds (right_runs c.args.self.now (right_of b) c.args.register c.args.from) c.args.ends.now c.given.new.ends c.given.result in
    subst P (sym c.in-Value.is) (rw (c.content-content.ensures) at c.given.ensures)

pub returns-in-Read : goal.returns-in-Read
returns-in-Read c =
    let P : RightSide → Type 0 = λ b. Adds (right_runs c.args.self.now (right_of b) c.args.register c.args.from) c.args.ends.now c.read_each.new.ends c.read_each.result in
    subst P (sym c.in-Read.is) (rw (c.load-load.ensures) at c.read_each.ensures)

pub returns-in-Call : goal.returns-in-Call
returns-in-Call c =
    let P : RightSide → Type 0 = λ b. Adds (right_runs c.args.self.now (right_of b) c.args.register c.args.from) c.args.ends.now c.call.new.ends c.call.result in
    subst P (sym c.in-Call.is) c.call.ensures
