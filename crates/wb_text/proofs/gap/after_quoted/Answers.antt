use Rattle.std.proofs.Common.{◌+◌, sym, subst}
use Rattle.wb_text.specs.Gaps.{IsQuoted}
use Rattle.wb_text.proofs.Quotes.{quoted_found, quoted_absent}
use Rattle.wb_text.proofs.Texts.{range_is}
use Rattle.wb_text.proofs.gap.after_quoted.Goals as goal

pub returns-in-Some : goal.returns-in-Some
returns-in-Some c =
    let inside = c.args.inside.now in
    subst (IsQuoted inside) (sym (range_is (c.in-Some.end + 1) inside)) (quoted_found inside c.in-Some.end c.in-Some.ensures)

pub returns-in-None : goal.returns-in-None
returns-in-None c = quoted_absent c.args.inside.now c.in-None.ensures
