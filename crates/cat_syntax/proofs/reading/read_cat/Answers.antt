use Rattle.std.proofs.Common.{◌≡◌, sym, subst, ◌∙◌, ap}
use Rattle.wb_text.specs.declared.fault.TextFault.TheVariants as texts
use Rattle.cat_syntax.specs.Items.{IsFile}
use Rattle.cat_syntax.specs.Symbols.{symbols_of}
use Rattle.cat_syntax.proofs.Tokens.{symbols_length}
use Rattle.cat_syntax.proofs.Whole.{no_memory, refused, text_refused}
use Rattle.cat_syntax.proofs.reading.read_cat.Goals as goal

pub returns-in_err-tokens-clause-only : goal.returns-in_err-tokens-clause-only
returns-in_err-tokens-clause-only c = λ f d.
    let none : c.in_err-tokens.field-0.0 ≡ texts.NoMemory = c.in_err-tokens.ensures.only d.tokens d.is_list in
    no_memory c.from_residual.result c.in_err-tokens.field-0.0 f c.from_residual.ensures.1 none

pub returns-clause-only : goal.returns-clause-only
returns-clause-only c = λ f d.
    let list : c.in_ok-tokens.tokens.items ≡ d.tokens = c.in_ok-tokens.ensures.only d.tokens d.is_list in
    let same : c.deref-2.result.now ≡ symbols_of c.args.text.now d.tokens =
    c.deref-2.ensures.value ∙ c.in_ok-symbols.ensures ∙ ap (symbols_of c.args.text.now) (c.deref.ensures.value ∙ list) in
    c.read_symbols.ensures.only f (subst (λ l. IsFile l f) (sym same) d.spelled) d.at_most

pub returns-clause-cause : goal.returns-clause-cause
returns-clause-cause c =
    refused c.args.text.now c.in_ok-tokens.tokens.items c.deref-3.result.now c.deref-2.result.now c.read_symbols.result c.in_ok-tokens.ensures.found
    (c.deref-2.ensures.value ∙ c.in_ok-symbols.ensures ∙ ap (symbols_of c.args.text.now) c.deref.ensures.value) c.deref-3.ensures.value
    c.read_symbols.ensures.reported (returns-clause-only c)

pub returns-in_err-tokens-clause-cause : goal.returns-in_err-tokens-clause-cause
returns-in_err-tokens-clause-cause c = text_refused c.args.text.now c.from_residual.result c.in_err-tokens.field-0.0 c.from_residual.ensures.1 c.in_err-tokens.ensures.cause

pub read_symbols-requires : goal.read_symbols-requires
read_symbols-requires c =
    rw (c.deref-2.ensures.value, c.deref-3.ensures.value, c.in_ok-symbols.ensures, c.deref.ensures.value) (symbols_length c.args.text.now c.in_ok-tokens.tokens.items)
