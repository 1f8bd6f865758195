use Rattle.std.proofs.Common.{◌≡◌, List, length, ap, subst, ◌∙◌}
use Rattle.std.proofs.lemmas.Result.{err_from_is_err_and}
use Rattle.wb_text.specs.declared.token.Token.{Token}
use Rattle.litmus_c.specs.Reads.{SpellNoTest, text_refusal}
use Rattle.litmus_c.proofs.Found.{written_in, spelled_of, text_cause, draft_cause}
use Rattle.litmus_c.proofs.reading.read_text.Goals as goal
use Rattle.litmus_syntax.specs.declared.symbol.Symbol.{Symbol}
use Rattle.litmus_syntax.specs.Drafts.{written_of}
use Rattle.litmus_syntax.specs.Symbols.{symbols_of}

pub returns-in_err-tokens-clause-only : goal.returns-in_err-tokens-clause-only
returns-in_err-tokens-clause-only c = λ w d.
    let p = err_from_is_err_and c.from_residual.result c.from_residual.ensures.1 in
    rw (p.1, p.2) (ap text_refusal (c.in_err-tokens.ensures.only d.tokens d.is_list))

pub returns-in_err-draft-clause-only : goal.returns-in_err-draft-clause-only
returns-in_err-draft-clause-only c = λ w d.
    let p = err_from_is_err_and c.from_residual-in_err-draft.result c.from_residual-in_err-draft.ensures.1 in
    let f : List Token → List Symbol = λ l. symbols_of c.args.text.now l in
    let is : c.as_slice-3.result.now ≡ f c.in_ok-tokens.tokens.items = c.as_slice-3.ensures.value ∙ c.in_ok-symbols.ensures ∙ ap f c.as_slice.ensures.value in
    let same : c.in_ok-tokens.tokens.items ≡ d.tokens = c.in_ok-tokens.ensures.only d.tokens d.is_list in
    rw (p.1, p.2) (c.in_err-draft.ensures.only w (spelled_of c.args.text.now c.in_ok-tokens.tokens.items c.as_slice-3.result.now w is d same))

pub returns-clause-found : goal.returns-clause-found
returns-clause-found c =
    let f : List Token → List Symbol = λ l. symbols_of c.args.text.now l in
    let is : c.as_slice-3.result.now ≡ f c.in_ok-tokens.tokens.items = c.as_slice-3.ensures.value ∙ c.in_ok-symbols.ensures ∙ ap f c.as_slice.ensures.value in
    written_in c.args.text.now c.in_ok-tokens.tokens.items c.as_slice-3.result.now (written_of c.in_ok-draft.draft) c.in_ok-tokens.ensures.found is c.in_ok-draft.ensures.found

pub returns-clause-only : goal.returns-clause-only
returns-clause-only c = λ w d.
    let f : List Token → List Symbol = λ l. symbols_of c.args.text.now l in
    let is : c.as_slice-3.result.now ≡ f c.in_ok-tokens.tokens.items = c.as_slice-3.ensures.value ∙ c.in_ok-symbols.ensures ∙ ap f c.as_slice.ensures.value in
    let same : c.in_ok-tokens.tokens.items ≡ d.tokens = c.in_ok-tokens.ensures.only d.tokens d.is_list in
    c.in_ok-draft.ensures.only w (spelled_of c.args.text.now c.in_ok-tokens.tokens.items c.as_slice-3.result.now w is d same)

pub returns-in_err-tokens-clause-cause : goal.returns-in_err-tokens-clause-cause
returns-in_err-tokens-clause-cause c =
    let p = err_from_is_err_and c.from_residual.result c.from_residual.ensures.1 in
    rw (p.1, p.2) (text_cause c.args.text.now _ c.in_err-tokens.ensures.cause)

pub returns-in_err-draft-clause-cause : goal.returns-in_err-draft-clause-cause
returns-in_err-draft-clause-cause c =
    let p = err_from_is_err_and c.from_residual-in_err-draft.result c.from_residual-in_err-draft.ensures.1 in
    let f : List Token → List Symbol = λ l. symbols_of c.args.text.now l in
    let is : c.as_slice-3.result.now ≡ f c.in_ok-tokens.tokens.items = c.as_slice-3.ensures.value ∙ c.in_ok-symbols.ensures ∙ ap f c.as_slice.ensures.value in
    rw (p.1, p.2) (draft_cause c.args.text.now c.in_ok-tokens.tokens.items c.as_slice-3.result.now c.in_ok-tokens.ensures.found is c.in_ok-tokens.ensures.only c.in_err-draft.field-0.0 (subst (λ l. SpellNoTest c.as_slice-3.result.now l (length c.args.text.now) c.in_err-draft.field-0.0) c.as_slice-2.ensures.value c.in_err-draft.ensures.cause))
