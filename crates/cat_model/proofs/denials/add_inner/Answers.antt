use Rattle.std.proofs.Common.{ℕ, false, get_or}
use Rattle.std.proofs.lemmas.List.{get_or_default}
use Rattle.cat_model.specs.declared.denials.Trace.{Trace}
use Rattle.cat_model.proofs.Members.{inner_first, inner_next, inner_last}
use Rattle.cat_model.proofs.denials.add_inner.Goals as goal

pub loop-trace-init : goal.loop-trace-init
loop-trace-init c = (c.requires, inner_first c.args.once.now.listed.items c.args.argument.now c.args.denied)

pub loop-trace-preserved : goal.loop-trace-preserved
loop-trace-preserved c =
    let none : Trace = record { place = 0; denied = false } in
    let i : ℕ = c.loop-trace.trace-index in
    let t : Trace = get_or c.args.argument.now i none in (
      c.in_ok-add.ensures.listed,
      inner_next c.args.once.now.listed.items c.loop-trace.once.listed.items c.add.new.once.listed.items c.args.argument.now c.args.denied i t c.denied_if.result c.loop-trace-test.true (get_or_default c.args.argument.now i none t c.loop-trace-test.true)
          c.denied_if.ensures c.loop-trace.invariant.1 c.in_ok-add.ensures.added,
    )

pub returns-clause-added : goal.returns-clause-added
returns-clause-added c = inner_last c.args.once.now.listed.items c.loop-trace.once.listed.items c.args.argument.now c.args.denied c.loop-trace.trace-index c.loop-trace-test.false c.loop-trace.invariant.1
