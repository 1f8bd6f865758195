use Rattle.std.proofs.Common.{◌∙◌, sym, add-one, append_assoc, drop-cons}
use Rattle.std.proofs.lemmas.List.{drop_all, append-nil}
use Rattle.wb_text.specs.declared.token.TokenKind.TheVariants.{Word}
use Rattle.cat_syntax.proofs.symbol.symbols.Goals as goal

pub loop-token-preserved : goal.loop-token-preserved
loop-token-preserved c =
    let here = rw (drop-cons c.args.tokens.now c.loop-token.token-index (record { kind = Word; from = 0; to = 0 }) c.loop-token-test.true) at c.loop-token.invariant in
    rw (c.in_ok-push.ensures.items, add-one, append_assoc, c.symbol_at.ensures) here

pub returns : goal.returns
returns c = sym (append-nil c.loop-token.symbols.items) ∙ rw (drop_all c.loop-token.token-index c.args.tokens.now c.loop-token-test.false) at c.loop-token.invariant
