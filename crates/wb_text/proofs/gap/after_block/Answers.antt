use Rattle.std.proofs.Common.{◌+◌, refl, sym, subst}
use Rattle.wb_text.specs.Gaps.{IsBlock}
use Rattle.wb_text.proofs.Blocks.{block_found, block_absent}
use Rattle.wb_text.proofs.Texts.{range_is}
use Rattle.wb_text.proofs.gap.after_block.Goals as goal

pub returns-in-Some : goal.returns-in-Some
returns-in-Some c =
    let inside = c.args.inside.now in
    let found = c.in-Some.ensures in
    subst (IsBlock inside) (sym (range_is (c.in-Some.end + 2) inside)) (block_found c.in-Some.end inside found.1 found.0.before)

pub returns-in-None : goal.returns-in-None
returns-in-None c = (refl, block_absent c.args.inside.now c.in-None.ensures)
