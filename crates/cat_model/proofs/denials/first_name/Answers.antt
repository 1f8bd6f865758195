use Rattle.std.proofs.Common.{◌≡◌, ℕ, false, length, get_or, rules}
use Rattle.std.proofs.lemmas.List.{get_or_default}
use Rattle.cat_model.specs.declared.denials.Trace.{Trace}
use Rattle.cat_model.proofs.Denying.{passed_allowed, passed_nowhere, passed_all}
use Rattle.cat_model.proofs.denials.first_name.Goals.{then-trace+in_default, else-trace}
use Rattle.cat_model.proofs.denials.first_name.Goals as goal

pub loop-trace-preserved : goal.loop-trace-preserved
loop-trace-preserved c =
    let none : Trace = record { place = 0; denied = false } in
    let i : ℕ = c.loop-trace.trace-index in
    let t : Trace = get_or c.args.traces.now i none in
    let e : t ≡ get_or c.args.traces.now i t = get_or_default c.args.traces.now i none t c.loop-trace-test.true in
    elim c.if-trace.branch [
      | then-trace+in_default w ↦ passed_nowhere c.args.traces.now i (length c.args.names.now) t c.loop-trace-test.true e (search rules) c.loop-trace.invariant
      | else-trace w ↦ passed_allowed c.args.traces.now i (length c.args.names.now) t c.loop-trace-test.true e (search rules) c.loop-trace.invariant
    ]

pub returns : goal.returns
returns c = passed_all c.args.traces.now c.loop-trace.trace-index (length c.args.names.now) c.loop-trace-test.false c.loop-trace.invariant
