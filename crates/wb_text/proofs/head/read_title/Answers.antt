use Rattle.std.proofs.Common.{ap, ◌++◌, ◌∷◌, [], ◌∙◌}
use Rattle.std.proofs.lemmas.Result.{err_from_is_err_and}
use Rattle.wb_text.specs.Faults.{bad_name}
use Rattle.wb_text.proofs.Heads.{title_none_open, title_none_word, title_nameless, title_named, title_err_nameless, title_err_named, title_open, title_cause_nameless, title_cause_named}
use Rattle.wb_text.proofs.head.read_title.Goals as goal

pub returns-in_err-name-clause-none : goal.returns-in_err-name-clause-none
returns-in_err-name-clause-none c =
    let p = err_from_is_err_and c.from_residual.result c.from_residual.ensures.1 in
    let found = c.in_err-name.ensures.open.1 in
    rw p.1 (λ m names rest t. title_none_open found.1 found.2 t)

pub returns-in_err-name-clause-cause : goal.returns-in_err-name-clause-cause
returns-in_err-name-clause-cause c =
    let p = err_from_is_err_and c.from_residual.result c.from_residual.ensures.1 in
    let found = c.in_err-name.ensures.open.1 in
    rw (p.1, p.2, c.in_err-name.ensures.open.0) (λ m. title_open found.1 found.2)

pub returns-in_default-clause-title : goal.returns-in_default-clause-title
returns-in_default-clause-title c =
    title_nameless c.args.total c.args.text.now c.args.tokens.now.items c.args.tokens.now.items c.after_information.result (rw c.in_default.is at c.in_ok-name.ensures.run) c.after_information.ensures.information

pub returns-in_default-clause-none : goal.returns-in_default-clause-none
returns-in_default-clause-none c =
    title_err_nameless c.args.total c.args.text.now c.args.tokens.now.items c.args.tokens.now.items c.after_information.result (rw c.in_default.is at c.in_ok-name.ensures.run) c.after_information.ensures.none

pub returns-in_default-clause-cause : goal.returns-in_default-clause-cause
returns-in_default-clause-cause c =
    title_cause_nameless c.args.text.now c.after_information.result (rw c.in_default.is at c.in_ok-name.ensures.run) c.after_information.ensures.cause

pub returns-in_err-len-clause-none : goal.returns-in_err-len-clause-none
returns-in_err-len-clause-none c =
    let p = err_from_is_err_and c.from_residual-in_err-len.result c.from_residual-in_err-len.ensures.1 in
    let run = rw c.in-Some.is at c.in_ok-name.ensures.run in
    rw p.1 (λ m names rest t. title_none_word run.0 run.1 c.in_err-len.ensures.none t)

pub returns-in_err-len-clause-cause : goal.returns-in_err-len-clause-cause
returns-in_err-len-clause-cause c =
    let p = err_from_is_err_and c.from_residual-in_err-len.result c.from_residual-in_err-len.ensures.1 in
    let run = rw c.in-Some.is at c.in_ok-name.ensures.run in
    rw (p.1, p.2, c.in_err-len.ensures.cause.0) (λ m. bad_name run.0 run.1 c.in_err-len.ensures.cause.1)

pub returns-clause-title : goal.returns-clause-title
returns-clause-title c =
    let old = c.args.tokens.now.items in
    let run = rw c.in-Some.is at c.in_ok-name.ensures.run in
    title_named c.args.total c.args.text.now old c.push.new.self.items c.after_information-2.result c.in-Some.name.now c.in_ok-len.len run.0 c.in_ok-len.ensures.word (c.in_ok-push.ensures.items ∙ ap (λ w. old ++ w ∷ []) c.word.ensures) c.after_information-2.ensures.information

pub returns-clause-none : goal.returns-clause-none
returns-clause-none c =
    let run = rw c.in-Some.is at c.in_ok-name.ensures.run in
    title_err_named c.args.total c.args.text.now c.args.tokens.now.items c.push.new.self.items c.after_information-2.result c.in-Some.name.now c.in_ok-len.len run.0 c.in_ok-len.ensures.word c.after_information-2.ensures.none

pub returns-clause-cause : goal.returns-clause-cause
returns-clause-cause c =
    let run = rw c.in-Some.is at c.in_ok-name.ensures.run in
    title_cause_named c.args.text.now c.after_information-2.result c.in-Some.name.now c.in_ok-len.len run.0 c.in_ok-len.ensures.word c.after_information-2.ensures.cause
