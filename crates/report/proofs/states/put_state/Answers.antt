use Rattle.std.proofs.Common.{◌∙◌, map}
use Rattle.report.proofs.Pages.{line_is}
use Rattle.report.proofs.states.put_state.Goals as goal

pub returns-in-Ok-clause-held : goal.returns-in-Ok-clause-held
returns-in-Ok-clause-held g c =
    let line = c.as_slice.ensures.value ∙ c.in-Ok.ensures ∙ line_is (map (λ x. x.items) c.args.labels.now) c.args.places.now c.args.values.now c.requires in
    rw line at c.hold.ensures.held

pub returns-in-Ok-clause-part : goal.returns-in-Ok-clause-part
returns-in-Ok-clause-part g c =
    let line = c.as_slice.ensures.value ∙ c.in-Ok.ensures ∙ line_is (map (λ x. x.items) c.args.labels.now) c.args.places.now c.args.values.now c.requires in
    rw line at c.hold.ensures.part
