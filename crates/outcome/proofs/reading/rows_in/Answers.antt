use Rattle.std.proofs.Common.{◌≡◌, ℕ, List, map, subst, ap, ◌∙◌}
use Rattle.std.specs.Prelude.{IfOk, IfErr}
use Rattle.std.proofs.lemmas.Result.{err_from_is_err_and}
use Rattle.outcome.specs.Reading.{AreRowsOf, IsNoRow, parts}
use Rattle.outcome.specs.Rows.{texts_of}
use Rattle.outcome.proofs.Stored.{told_of}
use Rattle.outcome.proofs.reading.rows_in.Goals as goal

pub returns-in_err-lines-clause-cause : goal.returns-in_err-lines-clause-cause
returns-in_err-lines-clause-cause c =
    let p = err_from_is_err_and c.from_residual.result c.from_residual.ensures.1 in rw (p.1, p.2) tt

pub returns-clause-stored : goal.returns-clause-stored
returns-clause-stored c =
    let lines : map (λ l. l.now) c.deref.result.now ≡ parts 10 c.args.text.now = ap (map (λ l. l.now)) c.deref.ensures.value ∙ c.in_ok-lines.ensures in
    let P : List (List ℕ) → Type 0 = λ ls. IfOk c.rows_of.result (λ v. AreRowsOf ls (map texts_of v.items)) in
    let Q : List (List ℕ) → Type 0 = λ ls. IfErr c.rows_of.result (IsNoRow ls) in
    told_of (λ v. map texts_of v.items) c.args.text.now c.rows_of.result (subst P lines c.rows_of.ensures.rows) (subst Q lines c.rows_of.ensures.cause)
