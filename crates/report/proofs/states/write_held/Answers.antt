use Rattle.std.proofs.Common.{[], ◌∷◌, ◌++◌, ◌∙◌, ap, sym, append-nil}
use Rattle.std.specs.List.{flat_map}
use Rattle.std.proofs.KnownBytes.{Appends-nil, Appends-trans}
use Rattle.report.specs.Texts.{state_line}
use Rattle.report.proofs.Pages.{held_on, held_among}
use Rattle.report.proofs.Written.{exit, after, one_on, line_among}
use Rattle.report.proofs.states.write_held.Goals as goal

pub loop-state-init : goal.loop-state-init
loop-state-init g c = ([], [], c.into_iter-state-iterator.ensures.into_iter_gives.0, Appends-nil _, c.new-page.ensures)

pub returns-in_err-put_state : goal.returns-in_err-put_state
returns-in_err-put_state g c =
    let i = c.loop-state.invariant in
    let f = state_line c.args.places.now in
    let x = c.in-Some.state.now in
    let all = line_among f c.args.states.now.keys i.0 c.loop-state.state-iterator c.next.new.self x i.2 c.in-Some.ensures.steps in
    let part = rw c.values.ensures at c.in_err-put_state.ensures.part in
    exit _ _ _ _ c.from_residual.result i.1 (c.loop-state.page.items ++ f x) (flat_map f c.next.new.self) _ c.from_residual.ensures.0 i.3 (part, c.in_err-put_state.ensures.marked)
    (held_among _ (flat_map f i.0) i.1 c.loop-state.page.items (f x) (flat_map f c.next.new.self) all i.4)

pub loop-state-preserved : goal.loop-state-preserved
loop-state-preserved g c =
    let i = c.loop-state.invariant in
    let x = c.in-Some.state.now in
    let held = rw c.values.ensures at c.in_ok-put_state.ensures.held in (
      i.0 ++ x ∷ [],
      i.1 ++ held.0,
      one_on c.args.states.now.keys i.0 c.loop-state.state-iterator c.next.new.self x i.2 c.in-Some.ensures.steps,
      Appends-trans _ _ _ i.1 held.0 i.3 held.1,
      held_on (state_line c.args.places.now) i.0 x i.1 c.loop-state.page.items held.0 _ i.4 held.2,
    )

pub returns : goal.returns
returns g c =
    let i = c.loop-state.invariant in
    let done = sym (append-nil i.0) ∙ ap (λ l. i.0 ++ l) (sym c.in-None.ensures.steps.0) ∙ i.2 in
    after _ _ _ _ _ i.1 c.as_slice.result.now _ i.3 c.write_bytes.ensures (ap (flat_map (state_line c.args.places.now)) (sym done) ∙ sym i.4 ∙ ap (λ l. i.1 ++ l) (sym c.as_slice.ensures.value))
