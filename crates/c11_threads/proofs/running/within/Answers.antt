use Rattle.std.proofs.Common.{sym, subst}
use Rattle.c11_threads.specs.Serving.{AreSmall}
use Rattle.c11_threads.proofs.running.within.Goals as goal

pub invariant_of-result : goal.invariant_of-result
invariant_of-result c = subst AreSmall (sym c.requires.values) c.threads.ensures.test.small
