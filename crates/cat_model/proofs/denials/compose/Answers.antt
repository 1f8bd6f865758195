use Rattle.std.proofs.Common.{ℕ, false, get_or, map}
use Rattle.std.proofs.lemmas.List.{get_or_default}
use Rattle.cat_model.specs.declared.denials.Trace.{Trace}
use Rattle.cat_model.proofs.Members.{composes_first, composes_next, composes_last}
use Rattle.cat_model.proofs.denials.compose.Goals as goal

pub loop-trace-init : goal.loop-trace-init
loop-trace-init c = (c.in_ok-once.ensures.0, composes_first c.in_ok-once.once.listed.items c.args.traces.now (map (λ a. a.items) c.args.arguments.now) c.in_ok-once.ensures.1)

pub loop-trace-preserved : goal.loop-trace-preserved
loop-trace-preserved c =
    let none : Trace = record { place = 0; denied = false } in
    let i : ℕ = c.loop-trace.trace-index in
    let t : Trace = get_or c.args.traces.now i none in (
      c.in_ok-add_argument.ensures.listed,
      composes_next c.loop-trace.once.listed.items c.add_argument.new.once.listed.items c.args.traces.now (map (λ a. a.items) c.args.arguments.now) i t c.loop-trace-test.true (get_or_default c.args.traces.now i none t c.loop-trace-test.true)
          c.loop-trace.invariant.1 c.in_ok-add_argument.ensures.added,
    )

pub returns : goal.returns
returns c = composes_last c.loop-trace.once.listed.items c.args.traces.now (map (λ a. a.items) c.args.arguments.now) c.loop-trace.trace-index c.loop-trace-test.false c.loop-trace.invariant.1
