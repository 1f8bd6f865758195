use Rattle.std.proofs.Common.{◌≡◌, sym, ◌∙◌, rules}
use Rattle.std.proofs.lemmas.Result.{err_from_is_err_and}
use Rattle.wb_text.specs.declared.token.Dialect.TheVariants.{Litmus}
use Rattle.wb_text.proofs.Gaps.{nesting_range, line_range, block_range, open_block}
use Rattle.wb_text.proofs.gap.after_comment.Goals as goal

pub returns-in_ok-after_nested : goal.returns-in_ok-after_nested
returns-in_ok-after_nested c =
    nesting_range c.args.dialect c.args.text.now (sym c.starts_with.ensures.value ∙ c.if-starts_with.true) c.in_ok-after_nested.ensures

pub returns-then-starts_with-2 : goal.returns-then-starts_with-2
returns-then-starts_with-2 c =
    line_range c.args.dialect c.args.text.now (sym c.starts_with-else-starts_with.ensures.value ∙ c.if-starts_with-2.true) c.from_line_end.ensures

pub returns-in_ok-after_block : goal.returns-in_ok-after_block
returns-in_ok-after_block c =
    let is : c.args.dialect ≡ Litmus = search rules in
    block_range c.args.dialect c.args.text.now is (sym c.starts_with-then-eq.ensures.value ∙ c.if-starts_with-3.true) c.in_ok-after_block.ensures

pub returns-in_err-after_block : goal.returns-in_err-after_block
returns-in_err-after_block c =
    let is : c.args.dialect ≡ Litmus = search rules in
    let p = err_from_is_err_and c.from_residual-in_err-after_block.result c.from_residual-in_err-after_block.ensures.1 in
    rw (p.1, p.2) (c.in_err-after_block.ensures.0, open_block c.args.dialect c.args.text.now is (sym c.starts_with-then-eq.ensures.value ∙ c.if-starts_with-3.true) c.in_err-after_block.ensures.1)
