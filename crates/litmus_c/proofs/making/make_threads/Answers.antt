use Rattle.std.proofs.Common.{rules}
use Rattle.litmus_c.proofs.Names.{programs_push, programs_len, map_len}
use Rattle.litmus_c.proofs.making.make_threads.Goals as goal

pub loop-body-preserved : goal.loop-body-preserved
loop-body-preserved c = search (rules, programs_push, programs_len, map_len)
