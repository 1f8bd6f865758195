use Rattle.litmus_syntax.specs.Reading.{listed_at, bracketed_at}
use Rattle.litmus_syntax.proofs.Stops.{ended}
use Rattle.litmus_syntax.proofs.syntax.Reader.listed.Goals as goal

pub returns : goal.returns
unfolding listed_at bracketed_at
returns c = rw (c.if-not-take.ensures, c.in_ok-expect.ensures, c.in_ok-places.ensures, c.and.ensures) (ended _ c.expect-2.result _ _ _ c.expect-2.ensures)
