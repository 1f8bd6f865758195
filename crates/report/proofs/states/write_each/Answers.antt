use Rattle.std.proofs.Common.{[], ◌∷◌, ◌++◌}
use Rattle.std.proofs.KnownBytes.{Appends-nil}
use Rattle.report.specs.Texts.{state_line}
use Rattle.report.proofs.Written.{exit, one_on, line_on, line_among, lines_done}
use Rattle.report.proofs.states.write_each.Goals as goal

pub loop-state-init : goal.loop-state-init
loop-state-init g c = ([], c.into_iter-state-iterator.ensures.into_iter_gives.0, Appends-nil _)

pub returns-in_err-write_state : goal.returns-in_err-write_state
returns-in_err-write_state g c =
    let i = c.loop-state.invariant in
    exit _ _ _ _ c.from_residual.result _ _ _ _ c.from_residual.ensures.0 i.2 (rw c.values.ensures at c.in_err-write_state.ensures)
    (line_among (state_line c.args.places.now) c.args.states.now.keys i.0 c.loop-state.state-iterator c.next.new.self c.in-Some.state.now i.1 c.in-Some.ensures.steps)

pub loop-state-preserved : goal.loop-state-preserved
loop-state-preserved g c =
    let i = c.loop-state.invariant in
    let x = c.in-Some.state.now in (
      i.0 ++ x ∷ [],
      one_on c.args.states.now.keys i.0 c.loop-state.state-iterator c.next.new.self x i.1 c.in-Some.ensures.steps,
      line_on (state_line c.args.places.now) _ _ _ i.0 x i.2 (rw c.values.ensures at c.in_ok-write_state.ensures),
    )

pub returns : goal.returns
returns g c =
    let i = c.loop-state.invariant in
    lines_done (state_line c.args.places.now) _ _ c.args.states.now.keys i.0 c.loop-state.state-iterator i.1 c.in-None.ensures.steps.0 i.2
