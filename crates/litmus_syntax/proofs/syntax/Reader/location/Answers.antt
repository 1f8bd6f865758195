use Rattle.litmus_syntax.specs.Reading.{location_at}
use Rattle.litmus_syntax.proofs.Stops.{ended}
use Rattle.litmus_syntax.proofs.syntax.Reader.location.Goals as goal

pub returns : goal.returns
unfolding location_at
returns c = rw (c.if-not-take.ensures, c.in_ok-name.ensures, c.and.ensures) (ended _ c.expect.result _ _ _ c.expect.ensures)
