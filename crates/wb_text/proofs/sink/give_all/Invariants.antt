use Rattle.std.proofs.Common.{◌≡◌, length, true}
use Rattle.wb_text.specs.Memory.{AppendsUpTo}
use Rattle.wb_text.proofs.sink.give_all.Given as goal

abbrev pub invariant-loop-rest : goal.invariant-loop-rest
invariant-loop-rest g l = record {
  given : AppendsUpTo (g.S.Sink.held l.initial.sink) (g.S.Sink.held l.sink) l.bytes l.rest;
  lasting : g.S.Sink.has_failed l.initial.sink ≡ true → g.S.Sink.has_failed l.sink ≡ true;
}

abbrev pub decreases-loop-rest : goal.decreases-loop-rest
decreases-loop-rest g l = length l.rest
