use Rattle.std.proofs.Common.{◌≡◌, ◌++◌, map, drop}
use Rattle.report.specs.Pages.{labelled}
use Rattle.report.proofs.lines.make_line.Given as goal

-- what is made so far, and what is left, is all of it
abbrev pub invariant-loop-place : goal.invariant-loop-place
invariant-loop-place l = l.line.items ++ labelled (map (λ x. x.items) (drop l.place l.labels)) (drop l.place l.values) ≡ labelled (map (λ x. x.items) l.labels) l.values
