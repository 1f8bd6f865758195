use Rattle.litmus_syntax.specs.Reading.{closed_at}
use Rattle.litmus_syntax.proofs.Stops.{ended}
use Rattle.litmus_syntax.proofs.syntax.Reader.closed.Goals as goal

pub returns : goal.returns
unfolding closed_at
returns c = rw (c.in_ok-statement.ensures, c.and.ensures) (ended _ c.expect.result _ _ _ c.expect.ensures)
