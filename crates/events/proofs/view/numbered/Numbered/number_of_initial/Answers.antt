use Rattle.std.proofs.Common.{◌≡◌, ◌∙◌, ◌<◌, ap, arith, length}
use Rattle.events.specs.declared.event.EventId.TheVariants.{Initial}
use Rattle.events.proofs.Direct.{initial_number, named_at}
use Rattle.events.proofs.view.numbered.Numbered.number_of_initial.Goals as goal

pub returns-then-location-init : goal.returns-then-location-init
returns-then-location-init c =
    let g = c.args.self.now in
    let e : length c.init.result.now ≡ length g.init = ap length (c.init.ensures ∙ ap (λ g. g.init) c.self.view_is) in
    initial_number g c.args.location (omega (arith, e, c.if-location-init.true))

pub returns-else-location-init : goal.returns-else-location-init
returns-else-location-init c = λ i s. (let g = c.args.self.now in
    let e : length c.init.result.now ≡ length g.init = ap length (c.init.ensures ∙ ap (λ g. g.init) c.self.view_is) in
    let n : c.args.location < length g.init = named_at g (Initial c.args.location) i s in
    absurd (omega (arith, e, n, c.if-location-init.false)))
