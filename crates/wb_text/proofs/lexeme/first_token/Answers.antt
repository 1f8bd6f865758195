use Rattle.std.proofs.Common.{sym, ◌∙◌, arith}
use Rattle.std.proofs.lemmas.Result.{err_from_is_err_and}
use Rattle.wb_text.specs.Bytes.{is_digit}
use Rattle.wb_text.specs.Faults.{bad_text}
use Rattle.wb_text.proofs.Runs.{prefix_len-pos}
use Rattle.wb_text.proofs.Lexemes.{number_token, number_none, number_cause, name_token, quoted_token, sign_token, sign_none, sign_cause}
use Rattle.wb_text.proofs.lexeme.first_token.Goals as goal

pub returns-in_err-number_len-clause-none : goal.returns-in_err-number_len-clause-none
returns-in_err-number_len-clause-none c =
    let p = err_from_is_err_and c.from_residual.result c.from_residual.ensures.1 in
    let digit = sym c.is_digit.ensures ∙ c.if-is_digit.true in
    let big = c.in_err-number_len.ensures.big (prefix_len-pos is_digit c.args.text.now c.requires.here digit) in
    rw p.1 (number_none c.args.dialect c.args.text.now c.requires.here digit big.1)

pub returns-in_err-number_len-clause-cause : goal.returns-in_err-number_len-clause-cause
returns-in_err-number_len-clause-cause c =
    let p = err_from_is_err_and c.from_residual.result c.from_residual.ensures.1 in
    let digit = sym c.is_digit.ensures ∙ c.if-is_digit.true in
    let big = c.in_err-number_len.ensures.big (prefix_len-pos is_digit c.args.text.now c.requires.here digit) in
    rw (p.1, p.2, big.0) (number_cause c.args.dialect c.args.text.now c.requires.here digit big.1)

pub returns-in_ok-number_len-clause-token : goal.returns-in_ok-number_len-clause-token
returns-in_ok-number_len-clause-token c =
    number_token c.args.dialect c.args.text.now c.requires.here _ c.requires.apart (sym c.is_digit.ensures ∙ c.if-is_digit.true) c.in_ok-number_len.ensures.run c.in_ok-number_len.ensures.small

pub returns-then-is_name_start-clause-token : goal.returns-then-is_name_start-clause-token
returns-then-is_name_start-clause-token c =
    name_token c.args.dialect c.args.text.now c.requires.here _ c.requires.apart (sym c.is_name_start.ensures ∙ c.if-is_name_start.true) c.run_len.ensures

pub returns-in_ok-quoted_len-clause-token : goal.returns-in_ok-quoted_len-clause-token
returns-in_ok-quoted_len-clause-token c =
    quoted_token c.args.dialect c.args.text.now c.requires.here _ c.requires.apart (c.in_ok-quoted_len.ensures.len c.args.dialect) c.in_ok-quoted_len.ensures.ascii

pub returns-then-len-gt0-clause-token : goal.returns-then-len-gt0-clause-token
returns-then-len-gt0-clause-token c =
    sign_token c.args.dialect c.args.text.now c.requires.here _ c.requires.apart c.sign_len-len.ensures.within (c.sign_len-len.ensures.sign c.if-len-gt0.true) c.sign_len-len.ensures.longest

pub returns-then-first-gt127-clause-none : goal.returns-then-first-gt127-clause-none
returns-then-first-gt127-clause-none c =
    let spells = sign_none c.args.dialect c.args.text.now c.requires.here (sym c.is_digit.ensures ∙ c.if-is_digit.false) (sym c.is_name_start.ensures ∙ c.if-is_name_start.false) c.if-first-eq34.false (λ m fits s. omega (arith, c.sign_len-len.ensures.longest m fits s)) in
    λ kind n w b. spells kind n w b.slice.within b.slice.spelled

pub returns-else-first-gt127-clause-none : goal.returns-else-first-gt127-clause-none
returns-else-first-gt127-clause-none c =
    let spells = sign_none c.args.dialect c.args.text.now c.requires.here (sym c.is_digit.ensures ∙ c.if-is_digit.false) (sym c.is_name_start.ensures ∙ c.if-is_name_start.false) c.if-first-eq34.false (λ m fits s. omega (arith, c.sign_len-len.ensures.longest m fits s)) in
    λ kind n w b. spells kind n w b.slice.within b.slice.spelled

pub returns-else-first-gt127-clause-cause : goal.returns-else-first-gt127-clause-cause
returns-else-first-gt127-clause-cause c =
    sign_cause c.args.dialect c.args.text.now c.requires.here (sym c.is_digit.ensures ∙ c.if-is_digit.false) (sym c.is_name_start.ensures ∙ c.if-is_name_start.false) c.if-first-eq34.false (λ m fits s. omega (arith, c.sign_len-len.ensures.longest m fits s)) c.if-first-gt127.false

pub returns-in_err-quoted_len-clause-cause : goal.returns-in_err-quoted_len-clause-cause
returns-in_err-quoted_len-clause-cause c =
    let p = err_from_is_err_and c.from_residual-in_err-quoted_len.result c.from_residual-in_err-quoted_len.ensures.1 in
    rw (p.1, p.2) (c.in_err-quoted_len.ensures.cause c.args.dialect)

pub returns-then-first-gt127-clause-cause : goal.returns-then-first-gt127-clause-cause
returns-then-first-gt127-clause-cause c = bad_text (record { nonempty = c.requires.here; above = c.if-first-gt127.true })
