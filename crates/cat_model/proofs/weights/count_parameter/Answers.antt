use Rattle.std.proofs.Common.{refl}
use Rattle.cat_model.proofs.Counting.{on_ok, parameter_called, parameter_counted}
use Rattle.cat_model.proofs.weights.count_parameter.Goals as goal

pub returns-then-count-eq0 : goal.returns-then-count-eq0
returns-then-count-eq0 c =
    parameter_counted c.args.measure c.args.tally.now.weights.items c.args.tally.now.waiting.items c.add.new.weights.items c.args.tally.now.waiting.items c.args.place c.args.count c.args.weight c.if-count-eq0.true c.add.ensures.long c.add.ensures.added refl

pub returns : goal.returns
returns c =
    on_ok c.count_node.result _ _
    (parameter_called c.args.measure c.args.tally.now.weights.items c.args.tally.now.waiting.items c.count_node.new.tally.weights.items c.count_node.new.tally.waiting.items c.args.place c.args.count c.args.weight c.if-count-eq0.false) c.count_node.ensures
