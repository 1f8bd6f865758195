use Rattle.drawing.proofs.Adding.{nothing_written}
use Rattle.drawing.proofs.write.write_text.Goals as goal

pub returns-in-Err-clause-part : goal.returns-in-Err-clause-part
returns-in-Err-clause-part g c = nothing_written _ _
