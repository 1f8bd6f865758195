use Rattle.std.proofs.lemmas.Result.{err_from_is_err_and}
use Rattle.litmus_syntax.specs.Drafts.{written_of}
use Rattle.litmus_c.proofs.Found.{test_found, test_only, unwritten_cause, rule_cause}
use Rattle.litmus_c.proofs.reading.read_test.Goals as goal

pub returns-in_err-read_text-clause-only : goal.returns-in_err-read_text-clause-only
returns-in_err-read_text-clause-only c = λ t d.
    let p = err_from_is_err_and c.from_residual.result c.from_residual.ensures.1 in
    rw (p.1, p.2) (c.in_err-read_text.ensures.only d.parts d.is_written)

pub returns-clause-found : goal.returns-clause-found
returns-clause-found c = test_found c.args.text.now (written_of c.in_ok-read_text.field-0) c.make_test.result c.in_ok-read_text.ensures.found c.make_test.ensures.made c.make_test.ensures.kept

pub returns-clause-only : goal.returns-clause-only
returns-clause-only c = λ t d. test_only c.args.text.now (written_of c.in_ok-read_text.field-0) c.make_test.result t d (c.in_ok-read_text.ensures.only d.parts d.is_written) c.make_test.ensures.made c.make_test.ensures.cause

pub returns-in_err-read_text-clause-cause : goal.returns-in_err-read_text-clause-cause
returns-in_err-read_text-clause-cause c =
    let p = err_from_is_err_and c.from_residual.result c.from_residual.ensures.1 in
    rw (p.1, p.2) (unwritten_cause c.args.text.now _ c.in_err-read_text.ensures.cause)

pub returns-clause-cause : goal.returns-clause-cause
returns-clause-cause c = rule_cause c.args.text.now (written_of c.in_ok-read_text.field-0) c.make_test.result c.in_ok-read_text.ensures.found c.make_test.ensures.cause
