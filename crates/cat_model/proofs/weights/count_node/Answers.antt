use Rattle.cat_model.proofs.Counting.{on_ok, node_counted}
use Rattle.cat_model.proofs.weights.count_node.Goals as goal

pub returns : goal.returns
returns c =
    on_ok c.wait_same.result _ _
    (λ e. node_counted c.args.measure c.args.tally.now.weights.items c.args.tally.now.waiting.items c.add.new.weights.items c.wait_same.new.waiting.items c.args.count c.args.weight c.add.ensures.long c.add.ensures.added e) c.wait_same.ensures
