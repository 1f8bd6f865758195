use Rattle.std.proofs.Common.{◌≡◌, ◌∙◌, ap, arith, length}
use Rattle.events.specs.declared.event.EventId.TheVariants.{Initial}
use Rattle.events.specs.Named.{event_names, event_count}
use Rattle.events.proofs.Standing.{stands_index}
use Rattle.events.proofs.view.numbered.Numbered.event.Goals as goal

pub offset_bounds-self-inside-number : goal.offset_bounds-self-inside-number
offset_bounds-self-inside-number c =
    let n : length c.self.inside.events.now ≡ event_count c.args.self.now = c.self.invariant.count ∙ ap event_count c.self.view_is in
    record { fits = omega (arith, n, c.requires, c.self.told.0) }

pub returns : goal.returns
returns c =
    let n : length c.self.inside.events.now ≡ event_count c.args.self.now = c.self.invariant.count ∙ ap event_count c.self.view_is in
    stands_index c.self.inside.events.now (event_names c.args.self.now) c.args.number (Initial 0) (c.self.invariant.events ∙ ap event_names c.self.view_is) (omega (arith, n, c.requires))
