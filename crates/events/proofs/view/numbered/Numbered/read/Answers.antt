use Rattle.std.proofs.Common.{◌≡◌, ◌∙◌, ap, arith, length}
use Rattle.events.specs.declared.event.EventId.TheVariants.{Initial}
use Rattle.events.specs.Named.{read_names}
use Rattle.events.proofs.Standing.{stands_index}
use Rattle.events.proofs.view.numbered.Numbered.read.Goals as goal

pub offset_bounds-self-inside-place : goal.offset_bounds-self-inside-place
offset_bounds-self-inside-place c =
    record { fits = omega (arith, ap length (c.self.invariant.reads ∙ ap read_names c.self.view_is), c.requires, c.self.told.1) }

pub returns : goal.returns
returns c =
    let e : c.self.inside.reads.now ≡ read_names c.args.self.now = c.self.invariant.reads ∙ ap read_names c.self.view_is in
    stands_index c.self.inside.reads.now (read_names c.args.self.now) c.args.place (Initial 0) e (omega (arith, ap length e, c.requires))
