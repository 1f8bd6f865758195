use Rattle.std.proofs.Common.{◌↔◌, take}
use Rattle.std.specs.List.{Contains}
use Rattle.cat_model.specs.Marked.{AreListed}
use Rattle.cat_model.specs.declared.denials.Trace.{Trace}
use Rattle.cat_model.proofs.denials.distinct.Given as goal

abbrev pub invariant-loop-trace : goal.invariant-loop-trace
invariant-loop-trace l = AreListed l.once × ((q : Trace) → Contains l.once.listed.items q ↔ Contains (take l.trace-index l.traces) q)
