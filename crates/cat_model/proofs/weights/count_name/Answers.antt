use Rattle.std.proofs.Common.{arith}
use Rattle.cat_model.proofs.Counting.{place_most}
use Rattle.cat_model.proofs.weights.count_name.Goals as goal

pub count_parameter-requires : goal.count_parameter-requires
count_parameter-requires c = (let l = place_most c.args.parameters.now c.args.name.now in let e = c.place_of-place.ensures in let r = c.requires in omega (arith, l, e, r))
