use Rattle.std.proofs.Common.{◌≡◌, ◌∙◌, sym, false, None, Some}
use Rattle.book.specs.Jobs.{is_done}
use Rattle.book.specs.Workbench.{replaced}
use Rattle.book.proofs.Steps.{pending, poll_replaced}
use Rattle.book.proofs.workbench.Bench.decide_poll.Goals as goal

pub returns-in-None-clause-step : goal.returns-in-None-clause-step
returns-in-None-clause-step c =
    let part : is_done c.in-Some.job.now ≡ false = cc in
    let own : replaced c.args.self.now c.in-Some.job.now ≡ None = sym c.in_ok-replacement.ensures ∙ c.in-None.is in
    rw c.keep.ensures (pending c.args.self.now 0 c.args.number c.done.result c.total.result c.in-Some.job.now c.requires c.in-Some.ensures part own c.done.ensures c.total.ensures)

pub returns-in-Some-2-clause-step : goal.returns-in-Some-2-clause-step
returns-in-Some-2-clause-step c =
    let part : is_done c.in-Some.job.now ≡ false = cc in
    let other : replaced c.args.self.now c.in-Some.job.now ≡ Some c.in-Some-2.replacement = sym c.in_ok-replacement.ensures ∙ c.in-Some-2.is in
    rw c.refuse-in-Some-2.ensures (poll_replaced c.args.self.now 0 c.args.number c.in-Some.job.now c.in-Some-2.replacement c.requires c.in-Some.ensures part other)
