use Rattle.c11_threads.proofs.Sets.{is_just}
use Rattle.c11_threads.proofs.content.just.Goals as goal

pub returns : goal.returns
returns c = is_just c.args.place c.just.result c.just.ensures
