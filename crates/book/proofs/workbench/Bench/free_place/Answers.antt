use Rattle.std.proofs.Common.{◌<◌, length, arith, rules}
use Rattle.std.proofs.lemmas.Grind.{common_steps}
use Rattle.book.proofs.Frees.{first_free}
use Rattle.book.proofs.workbench.Bench.free_place.Goals as goal

pub returns-in-Some : goal.returns-in-Some
returns-in-Some c =
    let s = c.args.self.now in
    let inside : c.loop-place.place < length s.jobs = grind (arith, common_steps) in
    first_free s c.index-job.result.now c.loop-place.place c.loop-place.from c.in-Some.slice c.loop-place.invariant inside (search rules) c.in-Some.ensures
