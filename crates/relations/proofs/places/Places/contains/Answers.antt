use Rattle.std.proofs.Common.{arith}
use Rattle.std.proofs.lemmas.Grind.{common_steps}
use Rattle.relations.specs.Equality.{event_below}
use Rattle.relations.proofs.Sets.{contained, bounded, count_of}
use Rattle.relations.proofs.places.Places.contains.Goals as goal

pub returns-then-place-lt64 : goal.returns-then-place-lt64
returns-then-place-lt64 c = contained 64 c.self.inside.word c.args.place c.args.self.now c.self.view_is (omega (arith, c.if-place-lt64.true, count_of _ _ _ c.self.view_is))

pub returns-else-place-lt64 : goal.returns-else-place-lt64
returns-else-place-lt64 c = (
  λ t. absurd (grind (arith, common_steps)),
  λ h. absurd (omega (arith, event_below c.args.self.now c.args.place (bounded _ _ _ c.self.view_is) h, count_of _ _ _ c.self.view_is, c.if-place-lt64.false)),
)
