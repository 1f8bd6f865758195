use Rattle.std.proofs.Common.{sym, inl, inr}
use Rattle.cat_places.proofs.Blaming.{moved}
use Rattle.cat_places.proofs.blame.is_model.Goals as goal

pub returns-in-Ok-clause-yes : goal.returns-in-Ok-clause-yes
returns-in-Ok-clause-yes c = λ _ e h. c.in-Ok.ensures.only e (moved e _ _ _ _ (sym c.in_ok-files.ensures) (sym c.in_ok-main.ensures) h)

pub returns-in-Err-clause-no : goal.returns-in-Err-clause-no
returns-in-Err-clause-no c = λ _.
    elim c.in-Err.ensures.cause [ inl n ↦ absurd (c.in_ok-in_memory-in-Err.ensures n) | inr h ↦ (c.in-Err.found, moved c.in-Err.found _ _ _ _ c.in_ok-files.ensures c.in_ok-main.ensures h) ]
