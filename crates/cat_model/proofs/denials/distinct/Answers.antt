use Rattle.std.proofs.Common.{ℕ, false, get_or}
use Rattle.std.proofs.lemmas.List.{get_or_default}
use Rattle.cat_model.specs.declared.denials.Trace.{Trace}
use Rattle.cat_model.proofs.Members.{listed_next, listed_first, listed_last}
use Rattle.cat_model.proofs.denials.distinct.Goals as goal

pub loop-trace-init : goal.loop-trace-init
loop-trace-init c = (c.in_ok-once.ensures.0, listed_first c.in_ok-once.once.listed.items c.args.traces.now c.in_ok-once.ensures.1)

pub loop-trace-preserved : goal.loop-trace-preserved
loop-trace-preserved c =
    let none : Trace = record { place = 0; denied = false } in
    let i : ℕ = c.loop-trace.trace-index in
    let t : Trace = get_or c.args.traces.now i none in (
      c.in_ok-add.ensures.listed,
      listed_next c.loop-trace.once.listed.items c.add.new.once.listed.items c.args.traces.now i t c.loop-trace-test.true (get_or_default c.args.traces.now i none t c.loop-trace-test.true) c.loop-trace.invariant.1 c.in_ok-add.ensures.added,
    )

pub returns : goal.returns
returns c = listed_last c.loop-trace.once.listed.items c.args.traces.now c.loop-trace.trace-index c.loop-trace-test.false c.loop-trace.invariant.1
