use Rattle.std.proofs.Common.{sym}
use Rattle.cat_places.proofs.text.file_of.Goals as goal

pub returns-in-Ok : goal.returns-in-Ok
returns-in-Ok c = (c.in-Ok.ensures.found, λ f r. sym (c.in-Ok.ensures.only f r))

pub returns-in-Err : goal.returns-in-Err
returns-in-Err c = λ f r. c.in_ok-in_memory-in-Err.ensures (c.in-Err.ensures.only f r)
