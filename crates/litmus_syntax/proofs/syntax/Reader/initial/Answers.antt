use Rattle.litmus_syntax.specs.Reading.{initial_at}
use Rattle.litmus_syntax.proofs.Stops.{ended}
use Rattle.litmus_syntax.proofs.syntax.Reader.initial.Goals as goal

pub returns : goal.returns
unfolding initial_at
returns c = rw (c.in_ok-expect.ensures, c.in_ok-entries.ensures, c.and.ensures) (ended _ c.expect-2.result _ _ _ c.expect-2.ensures)
