use Rattle.std.proofs.Common.{ℕ, get_or}
use Rattle.std.proofs.lemmas.List.{get_or_default}
use Rattle.cat_model.proofs.Counting.{within_more}
use Rattle.cat_model.proofs.weights.wait_within.Goals as goal

pub loop-time-preserved : goal.loop-time-preserved
loop-time-preserved c =
    let i : ℕ = c.loop-time.time-index in
    let t : ℕ = get_or c.args.times.now i 0 in
    let h = c.loop-time.invariant in
    within_more c.args.measure c.args.weight c.args.waiting.now.items c.loop-time.waiting.items c.push.new.self.items h.0 c.within.result c.args.times.now i t h.1 c.in_ok-push.ensures.items h.2 c.loop-time-test.true
    (get_or_default c.args.times.now i 0 t c.loop-time-test.true) c.within.ensures
