use Rattle.std.proofs.Common.{refl}
use Rattle.litmus_syntax.specs.Reading.{thread_at}
use Rattle.litmus_syntax.proofs.syntax.Reader.thread.Goals as goal

pub returns : goal.returns
unfolding thread_at
returns c = rw (c.in_ok-thread_name.ensures, c.in_ok-parameters.ensures, c.in_ok-expect.ensures, c.in_ok-statements.ensures) refl
