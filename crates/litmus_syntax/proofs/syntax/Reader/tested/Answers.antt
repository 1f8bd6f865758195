use Rattle.litmus_syntax.specs.Reading.{tested_at}
use Rattle.litmus_syntax.proofs.Stops.{ended}
use Rattle.litmus_syntax.proofs.syntax.Reader.tested.Goals as goal

pub returns : goal.returns
unfolding tested_at
returns c = rw (c.in_ok-test.ensures, c.and.ensures) (ended _ c.expect.result _ _ _ c.expect.ensures)
