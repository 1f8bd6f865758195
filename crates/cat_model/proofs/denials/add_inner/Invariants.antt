use Rattle.std.proofs.Common.{◌↔◌, ◌⊎◌, map, take}
use Rattle.std.specs.List.{Contains}
use Rattle.cat_model.specs.Marked.{AreListed, trace_if}
use Rattle.cat_model.specs.declared.denials.Trace.{Trace}
use Rattle.cat_model.proofs.denials.add_inner.Given as goal

abbrev pub invariant-loop-trace : goal.invariant-loop-trace
invariant-loop-trace l = AreListed l.once × ((q : Trace) → Contains l.once.listed.items q ↔ (Contains l.fn.once.listed.items q ⊎ Contains (map (trace_if l.denied) (take l.trace-index l.argument)) q))
