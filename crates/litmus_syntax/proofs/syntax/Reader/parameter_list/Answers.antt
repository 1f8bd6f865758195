use Rattle.litmus_syntax.specs.Reading.{parameter_list_at, parameters_closed}
use Rattle.litmus_syntax.proofs.Stops.{ended}
use Rattle.litmus_syntax.proofs.syntax.Reader.parameter_list.Goals as goal

pub returns : goal.returns
unfolding parameter_list_at parameters_closed
returns c = rw (c.in_ok-open.ensures, c.if-take.ensures.0, ← c.if-take.ensures.1, c.in_ok-parameters.ensures, c.and.ensures) (ended _ c.expect.result _ _ _ c.expect.ensures)
