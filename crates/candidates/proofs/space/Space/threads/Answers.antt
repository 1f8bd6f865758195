use Rattle.std.proofs.Common.{arith}
use Rattle.candidates.proofs.space.Space.threads.Goals as goal

pub returns-clause-threads : goal.returns-clause-threads
returns-clause-threads c =
    let v = c.self.invariant in
    record {
      tallied = rw (c.deref-4.ensures.value, c.deref.ensures.value, c.deref-2.ensures.value) v.tallied;
      room = rw (c.deref-4.ensures.value, c.deref-2.ensures.value) v.room;
      needs = rw (c.deref-4.ensures.value, c.deref.ensures.value, c.deref-3.ensures.value) v.needs;
      within = rw (c.deref-4.ensures.value, c.deref.ensures.value) v.within;
      most = rw (c.deref-4.ensures.value, c.deref.ensures.value) (omega (arith, v.size, v.most));
    }
