use Rattle.std.proofs.Common.{sym, ◌∙◌}
use Rattle.std.proofs.lemmas.Result.{err_from_is_err_and}
use Rattle.wb_text.specs.Faults.{unclosed_comment, unclosed_string}
use Rattle.wb_text.specs.Tokens.{nothing}
use Rattle.wb_text.proofs.Gaps.{comment_shorter}
use Rattle.wb_text.proofs.Texts.{nonempty}
use Rattle.wb_text.proofs.Lexemes.{quoted_open}
use Rattle.wb_text.proofs.Heads.{info_none_open, info_none_fault, info_more_quoted, info_more_comment, info_more_plain}
use Rattle.wb_text.proofs.head.after_information.Goals as goal

pub loop-rest-init : goal.loop-rest-init
loop-rest-init c = nothing

pub returns-in_default-clause-none : goal.returns-in_default-clause-none
returns-in_default-clause-none c =
    info_none_fault c.loop-rest.invariant (unclosed_string (quoted_open c.loop-rest.rest.now (nonempty _ (sym c.is_empty.ensures ∙ c.loop-rest-test.true)) c.if-rest-eq34.true c.in_default.ensures))

pub returns-in_default-clause-cause : goal.returns-in_default-clause-cause
returns-in_default-clause-cause c =
    let rest = c.loop-rest.rest.now in
    (rest, c.loop-rest.invariant, unclosed_string (quoted_open rest (nonempty _ (sym c.is_empty.ensures ∙ c.loop-rest-test.true)) c.if-rest-eq34.true c.in_default.ensures))

pub loop-rest-preserved-then-rest-eq34 : goal.loop-rest-preserved-then-rest-eq34
loop-rest-preserved-then-rest-eq34 c =
    info_more_quoted c.loop-rest.rest.now c.loop-rest.invariant (nonempty _ (sym c.is_empty.ensures ∙ c.loop-rest-test.true)) c.if-rest-eq34.true c.in-Some.ensures

pub returns-in_err-after-clause-none : goal.returns-in_err-after-clause-none
returns-in_err-after-clause-none c =
    let p = err_from_is_err_and c.from_residual.result c.from_residual.ensures.1 in
    rw p.1 (info_none_open c.loop-rest.invariant c.in_err-after.ensures.1)

pub returns-in_err-after-clause-cause : goal.returns-in_err-after-clause-cause
returns-in_err-after-clause-cause c =
    let p = err_from_is_err_and c.from_residual.result c.from_residual.ensures.1 in
    rw (p.1, p.2, c.in_err-after.ensures.0) (c.loop-rest.rest.now, c.loop-rest.invariant, unclosed_comment c.in_err-after.ensures.1)

pub loop-rest-smaller-in-Some-2 : goal.loop-rest-smaller-in-Some-2
loop-rest-smaller-in-Some-2 c = comment_shorter (rw c.in-Some-2.is at c.in_ok-after.ensures)

pub loop-rest-preserved-in-Some-2 : goal.loop-rest-preserved-in-Some-2
loop-rest-preserved-in-Some-2 c = info_more_comment c.loop-rest.rest.now c.loop-rest.invariant (rw c.in-Some-2.is at c.in_ok-after.ensures)

pub loop-rest-preserved : goal.loop-rest-preserved
loop-rest-preserved c =
    info_more_plain c.loop-rest.rest.now c.loop-rest.invariant (nonempty _ (sym c.is_empty.ensures ∙ c.loop-rest-test.true)) c.if-rest-ne123.true c.if-rest-eq34.false (rw c.in_default-2.is at c.in_ok-after.ensures)
