use Rattle.cat_model.proofs.Counting.{on_ok, body_counted}
use Rattle.cat_model.proofs.weights.count_body.Goals as goal

pub returns : goal.returns
returns c =
    on_ok c.wait_within.result _ _
    (λ h. body_counted c.args.measure c.args.tally.now.weights.items c.args.tally.now.waiting.items c.add.new.weights.items c.wait_within.new.waiting.items c.args.weight c.args.own c.within-inside.result h.0 c.args.times.now c.add.ensures.long c.within-inside.ensures c.add.ensures.added h.1 h.2)
    c.wait_within.ensures
