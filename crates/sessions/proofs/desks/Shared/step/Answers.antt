use Rattle.std.proofs.Common.{[], ◌∷◌, length, ap, arith}
use Rattle.std.proofs.lemmas.List.{length-append}
use Rattle.std.specs.Arc.{arc_value}
use Rattle.sessions.specs.Views.{PassView}
use Rattle.std.proofs.lemmas.Grind.{common_steps}
use Rattle.sessions.proofs.desks.Shared.step.Goals as goal

pub invariant_of-pass-2 : goal.invariant_of-pass-2
invariant_of-pass-2 c = grind (arith, common_steps)

pub invariant_of-self : goal.invariant_of-self
invariant_of-self c = grind (arith, common_steps)

pub returns-clause-step : goal.returns-clause-step
returns-clause-step c = grind (arith, common_steps)

pub returns-clause-room : goal.returns-clause-room
returns-clause-room c = grind (arith, common_steps)

pub returns-in_err-entry-clause-only : goal.returns-in_err-entry-clause-only
returns-in_err-entry-clause-only c = grind (arith, common_steps)

pub invariant_of-self-2 : goal.invariant_of-self-2
invariant_of-self-2 g c =
    let long = ap length c.in_ok-entry.ensures.journal in
    let more = length-append c.self.inside.book.journal (arc_value c.in_ok-entry.entry ∷ []) in
    record { counted = omega (arith, long, more, c.self.invariant.counted, c.add.ensures.total); no_part = c.self.invariant.no_part; nothing = c.self.invariant.nothing }

pub add-requires : goal.add-requires
add-requires g c = let one = ap (λ (p : PassView). p.parts) c.pass.view_is in omega (arith, one, c.requires)
