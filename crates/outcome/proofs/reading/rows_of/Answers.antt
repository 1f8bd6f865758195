use Rattle.std.proofs.Common.{refl, sym, ap, ◌∙◌, map, ◌∷◌, []}
use Rattle.std.proofs.lemmas.List.{map-append}
use Rattle.std.proofs.lemmas.Result.{err_from_is_err_and}
use Rattle.std.specs.Prelude.{option_map}
use Rattle.outcome.specs.Rows.{texts_of}
use Rattle.outcome.proofs.ReadBack.{empty_on, row_on, ends_at}
use Rattle.outcome.proofs.reading.rows_of.Goals as goal

pub loop-place-preserved-then-is_empty : goal.loop-place-preserved-then-is_empty
loop-place-preserved-then-is_empty c = empty_on c.args.lines.now c.loop-place.place _ _ c.loop-place.invariant c.loop-place-test.true (sym c.is_empty.ensures ∙ c.if-is_empty.true)

pub returns-in_err-row-clause-cause : goal.returns-in_err-row-clause-cause
returns-in_err-row-clause-cause c =
    let p = err_from_is_err_and c.from_residual.result c.from_residual.ensures.1 in rw (p.1, p.2) tt

pub returns-in_err-push-in-Some-clause-cause : goal.returns-in_err-push-in-Some-clause-cause
returns-in_err-push-in-Some-clause-cause c =
    let p = err_from_is_err_and c.from_residual-in_err-push-in-Some.result c.from_residual-in_err-push-in-Some.ensures.1 in rw (p.1, p.2) tt

pub returns-in-None-clause-cause : goal.returns-in-None-clause-cause
returns-in-None-clause-cause c =
    (c.loop-place.place, refl, ends_at c.args.lines.now c.loop-place.place _ _ c.loop-place.invariant c.loop-place-test.true (sym c.is_empty.ensures ∙ c.if-is_empty.false) (sym c.in_ok-row.ensures ∙ ap (option_map texts_of) c.in-None.is))

pub loop-place-preserved : goal.loop-place-preserved
loop-place-preserved c =
    row_on c.args.lines.now c.loop-place.place _ _ _ (texts_of c.in-Some.row) c.loop-place.invariant c.loop-place-test.true (sym c.is_empty.ensures ∙ c.if-is_empty.false) (sym c.in_ok-row.ensures ∙ ap (option_map texts_of) c.in-Some.is)
    (ap (map texts_of) c.in_ok-push-in-Some.ensures.items ∙ map-append texts_of c.loop-place.rows.items (c.in-Some.row ∷ []))
