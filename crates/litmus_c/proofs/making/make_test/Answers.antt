use Rattle.std.proofs.Common.{◌∙◌}
use Rattle.std.proofs.lemmas.Result.{err_from_is_err_and}
use Rattle.litmus_syntax.specs.Drafts.{written_of}
use Rattle.litmus_c.proofs.Kept.{made_test, parts}
use Rattle.litmus_c.proofs.making.make_test.Goals as goal

pub returns-in_err-initial-clause-cause : goal.returns-in_err-initial-clause-cause
returns-in_err-initial-clause-cause c =
    let p = err_from_is_err_and c.from_residual.result c.from_residual.ensures.1 in
    let cause = rw (c.as_slice.ensures.value, c.as_slice-2.ensures.value) at c.in_err-initial.ensures.cause c.args.draft.name in
    rw (p.1, p.2) cause

pub new-requires : goal.new-requires
new-requires c =
    let w = written_of c.args.draft in
    let made = rw (c.as_slice.ensures.value, c.as_slice-2.ensures.value) at c.in_ok-initial.ensures in
    made_test w _ _ _ made.initial made.threads (made.locations w.name) (made.kept w.name)

pub returns-clause-made : goal.returns-clause-made
returns-clause-made c =
    let w = written_of c.args.draft in
    let made = rw (c.as_slice.ensures.value, c.as_slice-2.ensures.value) at c.in_ok-initial.ensures in
    c.in_ok-new.ensures ∙ parts w _ _ _ made.initial made.threads (made.locations w.name)

pub returns-clause-kept : goal.returns-clause-kept
returns-clause-kept c =
    let made = rw (c.as_slice.ensures.value, c.as_slice-2.ensures.value) at c.in_ok-initial.ensures in
    made.kept c.args.draft.name
