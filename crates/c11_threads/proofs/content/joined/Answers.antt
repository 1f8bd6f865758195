use Rattle.c11_threads.proofs.Sets.{is_union}
use Rattle.c11_threads.proofs.content.joined.Goals as goal

pub returns : goal.returns
returns c = is_union c.args.first.now c.args.second.now c.union.result c.union.ensures
