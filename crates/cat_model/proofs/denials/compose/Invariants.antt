use Rattle.std.proofs.Common.{◌↔◌, map, take}
use Rattle.std.specs.List.{Contains}
use Rattle.cat_model.specs.Marked.{AreListed, Composes}
use Rattle.cat_model.specs.declared.denials.Trace.{Trace}
use Rattle.cat_model.proofs.denials.compose.Given as goal

abbrev pub invariant-loop-trace : goal.invariant-loop-trace
invariant-loop-trace l = AreListed l.once × ((q : Trace) → Contains l.once.listed.items q ↔ Composes (take l.trace-index l.traces) (map (λ a. a.items) l.arguments) q)
