use Rattle.std.proofs.Common.{◌≡◌, ◌++◌, drop}
use Rattle.std.specs.List.{flat_map}
use Rattle.outcome.specs.Refusals.{refusal_text}
use Rattle.outcome.proofs.refusal.push_refusals.Given as goal

abbrev pub invariant-loop-case : goal.invariant-loop-case
invariant-loop-case l = l.text.items ++ flat_map (refusal_text l.form l.milliseconds l.label) (drop l.case-index l.cases) ≡ l.initial.text.items ++ flat_map (refusal_text l.form l.milliseconds l.label) l.cases
