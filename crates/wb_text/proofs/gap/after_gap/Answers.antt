use Rattle.std.proofs.Common.{sym, ◌∙◌}
use Rattle.wb_text.specs.Gaps.{none}
use Rattle.wb_text.proofs.Gaps.{gap_range, gap_more_comment, comment_shorter}
use Rattle.wb_text.proofs.gap.after_gap.Goals as goal

pub loop-rest-init : goal.loop-rest-init
loop-rest-init c = none

pub loop-rest-preserved-then-begins_blank : goal.loop-rest-preserved-then-begins_blank
loop-rest-preserved-then-begins_blank c =
    gap_range c.loop-rest.rest.now c.loop-rest.invariant (sym c.begins_blank.ensures ∙ c.if-begins_blank.true)

pub loop-rest-smaller : goal.loop-rest-smaller
loop-rest-smaller c = comment_shorter (rw c.in-Some.is at c.in_ok-after.ensures)

pub loop-rest-preserved : goal.loop-rest-preserved
loop-rest-preserved c = gap_more_comment c.loop-rest.invariant (rw c.in-Some.is at c.in_ok-after.ensures)
