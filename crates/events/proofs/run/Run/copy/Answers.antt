use Rattle.std.proofs.Common.{◌∙◌, List, ℕ, ap}
use Rattle.std.specs.List.{each_same}
use Rattle.events.specs.declared.event.Event.{Event}
use Rattle.events.specs.Executions.{ThreadRun}
use Rattle.events.proofs.run.Run.copy.Goals as goal

pub returns : goal.returns
returns c =
    let made : List Event → List ℕ → ThreadRun = λ es rs. record { events = es; registers = rs } in
    let events = c.in_ok-copy_events.ensures ∙ c.deref.ensures.value in
    let registers = each_same c.self.inside.registers.items c.in_ok-clone.field-0.items c.in_ok-clone.ensures.cases.0 in
    ap (λ es. made es c.in_ok-clone.field-0.items) events ∙ ap (λ rs. made c.self.inside.events.items rs) registers ∙ c.self.view_is
