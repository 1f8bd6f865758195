use Rattle.std.proofs.Common.{◌≡◌, ◌++◌, [], map, drop}
use Rattle.report.specs.Pages.{labels_from}
use Rattle.report.proofs.lines.labels.Given as goal

-- the labels so far, and those that are left, are all
abbrev pub invariant-loop-place : goal.invariant-loop-place
invariant-loop-place l = map (λ x. x.items) l.labels.items ++ labels_from l.separator (drop l.place-index l.places) ≡ labels_from [] l.places
