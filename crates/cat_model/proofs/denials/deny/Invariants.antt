use Rattle.std.proofs.Common.{◌≡◌, ◌++◌, map, take, drop, true}
use Rattle.cat_model.specs.Marked.{trace_if}
use Rattle.cat_model.proofs.denials.deny.Given as goal

abbrev pub invariant-loop-trace : goal.invariant-loop-trace
invariant-loop-trace l = take l.trace-index l.trace-items ++ map (trace_if true) (drop l.trace-index l.trace-items) ≡ map (trace_if true) l.fn.traces.items
