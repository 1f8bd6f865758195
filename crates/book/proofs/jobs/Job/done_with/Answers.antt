use Rattle.std.proofs.Common.{◌∙◌, ap, arith}
use Rattle.book.specs.Jobs.{Job, done}
use Rattle.book.proofs.Results.{done_then, done_again, done_beyond, some_there, none_there, done_few}
use Rattle.book.proofs.jobs.Job.done_with.Goals as goal

pub returns-then-slice : goal.returns-then-slice
returns-then-slice c =
    let same = c.deref.ensures.value ∙ ap (λ (j : Job). j.slices) c.self.view_is in
    let there = some_there c.args.self.now c.deref.result.now c.args.slice c.in-Some.slice.now same c.in-Some.ensures.lookup.0 c.in-Some.ensures.lookup.1 in
    done_again c.args.self.now c.args.slice c.done.result c.in-Some.slice.now there c.if-slice.true c.done.ensures

pub returns-else-slice : goal.returns-else-slice
returns-else-slice c =
    let same = c.deref.ensures.value ∙ ap (λ (j : Job). j.slices) c.self.view_is in
    let there = some_there c.args.self.now c.deref.result.now c.args.slice c.in-Some.slice.now same c.in-Some.ensures.lookup.0 c.in-Some.ensures.lookup.1 in
    done_then c.args.self.now c.args.slice c.done-else-slice.result c.in-Some.slice.now there c.if-slice.false c.done-else-slice.ensures

pub returns-in-None : goal.returns-in-None
returns-in-None c =
    let same = c.deref.ensures.value ∙ ap (λ (j : Job). j.slices) c.self.view_is in
    done_beyond c.args.self.now c.args.slice c.done-in-None.result (none_there c.args.self.now c.deref.result.now c.args.slice same c.in-None.ensures.lookup.0) c.done-in-None.ensures

pub overflow_add-result : goal.overflow_add-result
overflow_add-result c = omega (arith, c.done-else-slice.ensures, ap done c.self.view_is, done_few c.self.inside.tally c.self.inside.slices.items c.self.invariant.tied)
