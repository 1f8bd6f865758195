use Rattle.std.proofs.Common.{sym, ap, ◌++◌, ◌∷◌, [], ◌∙◌, arith}
use Rattle.std.proofs.lemmas.Bool.{eqb-true}
use Rattle.std.proofs.lemmas.List.{nil_from_length, append-nil}
use Rattle.std.proofs.lemmas.Result.{err_from_is_err_and}
use Rattle.wb_text.specs.Faults.{before_language, bad_language}
use Rattle.wb_text.proofs.Gaps.{gap_length}
use Rattle.wb_text.proofs.Texts.{nonempty, range_length}
use Rattle.wb_text.proofs.Heads.{head_none_open, head_none_word, head_void, head_words, head_err, head_cause_title, line_run}
use Rattle.wb_text.proofs.head.read_words.Goals as goal

pub returns-in_err-language-clause-none : goal.returns-in_err-language-clause-none
returns-in_err-language-clause-none c =
    let p = err_from_is_err_and c.from_residual.result c.from_residual.ensures.1 in
    let found = c.in_err-language.ensures.open.1 in
    rw p.1 (λ m ts rest t. head_none_open found.1 found.2 t)

pub returns-in_err-language-clause-cause : goal.returns-in_err-language-clause-cause
returns-in_err-language-clause-cause c =
    let p = err_from_is_err_and c.from_residual.result c.from_residual.ensures.1 in
    let found = c.in_err-language.ensures.open.1 in
    rw (p.1, p.2, c.in_err-language.ensures.open.0) (λ m. before_language found.1 found.2)

pub returns-then-is_empty-clause-head : goal.returns-then-is_empty-clause-head
returns-then-is_empty-clause-head c =
    let next = c.in_ok-language.language.now in
    let void = nil_from_length next (eqb-true _ 0 (sym c.is_empty.ensures ∙ c.if-is_empty.true)) in
    ([], head_void c.in_ok-language.ensures.gap void, sym (append-nil c.args.tokens.now.items))

pub returns-in_err-len-clause-none : goal.returns-in_err-len-clause-none
returns-in_err-len-clause-none c =
    let p = err_from_is_err_and c.from_residual-in_err-len.result c.from_residual-in_err-len.ensures.1 in
    let run = line_run c.in_ok-language.language.now c.in_ok-language.ensures.gap c.in_ok-language.ensures.all (nonempty _ (sym c.is_empty.ensures ∙ c.if-is_empty.false)) in
    rw p.1 (λ m ts rest t. head_none_word c.in_ok-language.ensures.gap run c.in_err-len.ensures.none t)

pub returns-in_err-len-clause-cause : goal.returns-in_err-len-clause-cause
returns-in_err-len-clause-cause c =
    let p = err_from_is_err_and c.from_residual-in_err-len.result c.from_residual-in_err-len.ensures.1 in
    let run = line_run c.in_ok-language.language.now c.in_ok-language.ensures.gap c.in_ok-language.ensures.all (nonempty _ (sym c.is_empty.ensures ∙ c.if-is_empty.false)) in
    rw (p.1, p.2, c.in_err-len.ensures.cause.0) (λ m. bad_language c.in_ok-language.ensures.gap run c.in_err-len.ensures.cause.1)

pub word-requires-clause-within : goal.word-requires-clause-within
word-requires-clause-within c = gap_length c.in_ok-language.ensures.gap

pub read_title-requires : goal.read_title-requires
read_title-requires c = omega (arith, gap_length c.in_ok-language.ensures.gap, range_length c.in_ok-len.len c.in_ok-language.language.now)

pub returns-clause-head : goal.returns-clause-head
returns-clause-head c =
    let old = c.args.tokens.now.items in
    head_words _ c.args.text.now old c.read_title.new.tokens.items c.read_title.result c.push.new.self.items c.in_ok-language.language.now c.in_ok-len.len c.in_ok-language.ensures.gap c.in_ok-len.ensures.word (c.in_ok-push.ensures.items ∙ ap (λ w. old ++ w ∷ []) c.word.ensures) c.read_title.ensures.title

pub returns-clause-none : goal.returns-clause-none
returns-clause-none c =
    head_err _ c.args.text.now c.args.tokens.now.items c.read_title.new.tokens.items c.read_title.result c.in_ok-language.language.now c.in_ok-len.len c.in_ok-language.ensures.gap c.in_ok-len.ensures.word c.read_title.ensures.none

pub returns-clause-cause : goal.returns-clause-cause
returns-clause-cause c =
    head_cause_title c.args.text.now c.read_title.result c.in_ok-language.language.now c.in_ok-len.len c.in_ok-language.ensures.gap c.in_ok-len.ensures.word c.read_title.ensures.cause
