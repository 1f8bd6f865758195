use Rattle.std.proofs.Common.{◌≡◌, ◌++◌, sym, ap, subst, ◌∙◌, Err, codes}
use Rattle.std.specs.Prelude.{MatchOption}
use Rattle.wb_text.specs.Names.{IsName}
use Rattle.scripts.specs.declared.instruction.LineFault.TheVariants.{Bad}
use Rattle.scripts.proofs.Counted.{told_on}
use Rattle.scripts.proofs.Words.{two_names, names_need_a_space}
use Rattle.scripts.proofs.instruction.read_ask.Goals as goal

pub returns-in_err-read_name-in_default-Some-clause-bad : goal.returns-in_err-read_name-in_default-Some-clause-bad
returns-in_err-read_name-in_default-Some-clause-bad c e test cat first second q =
    let word = c.split_word.result.0.now in
    let parts = subst (λ o. MatchOption o (c.args.rest.now ≡ word) (λ r. c.args.rest.now ≡ word ++ (codes " " ++ r.now))) c.in_default-Some.is-1 c.split_word.ensures.parts in
    let fault = told_on c.from_residual.result c.in_err-read_name-in_default-Some.field-0.0 Bad c.from_residual.ensures.1 e in
    let same = two_names c.args.rest.now word c.in_default-Some.cat.now test cat c.split_word.ensures.word first parts q in
    c.read_name.ensures.bad (c.in_err-read_name-in_default-Some.was ∙ ap Err fault) (subst IsName (sym same.0) first)

pub returns-in_err-read_name-in_default-Some-2-clause-bad : goal.returns-in_err-read_name-in_default-Some-2-clause-bad
returns-in_err-read_name-in_default-Some-2-clause-bad c e test cat first second q =
    let word = c.split_word.result.0.now in
    let parts = subst (λ o. MatchOption o (c.args.rest.now ≡ word) (λ r. c.args.rest.now ≡ word ++ (codes " " ++ r.now))) c.in_default-Some.is-1 c.split_word.ensures.parts in
    let fault = told_on c.from_residual-in_err-read_name-in_default-Some-2.result c.in_err-read_name-in_default-Some-2.field-0.0 Bad c.from_residual-in_err-read_name-in_default-Some-2.ensures.1 e in
    let same = two_names c.args.rest.now word c.in_default-Some.cat.now test cat c.split_word.ensures.word first parts q in
    c.read_name-in_default-Some.ensures.bad (c.in_err-read_name-in_default-Some-2.was ∙ ap Err fault) (subst IsName (sym (ap (λ b. b.now) c.in_default-Some.cat-is ∙ same.1)) second)

pub returns-in_default-None-clause-bad : goal.returns-in_default-None-clause-bad
returns-in_default-None-clause-bad c e test cat first second q =
    let word = c.split_word.result.0.now in
    let alone = subst (λ o. MatchOption o (c.args.rest.now ≡ word) (λ r. c.args.rest.now ≡ word ++ (codes " " ++ r.now))) c.in_default-None.is-1 c.split_word.ensures.parts in
    names_need_a_space word test cat c.split_word.ensures.word (sym alone ∙ q)
