use Rattle.wb_text.proofs.OneFault.{no_cause}
use Rattle.cat_places.proofs.model.Blame.token.Goals as goal

pub returns-in-Err : goal.returns-in-Err
returns-in-Err c = λ f r. absurd (no_cause r.is_list.short c.in_ok-has_memory-in-Err.ensures c.in-Err.ensures.cause r.is_list)
