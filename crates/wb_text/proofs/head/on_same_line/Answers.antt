use Rattle.std.proofs.Common.{sym, ◌∙◌}
use Rattle.std.proofs.lemmas.Bool.{eqb-true}
use Rattle.wb_text.proofs.Gaps.{gap_length}
use Rattle.wb_text.proofs.Texts.{nonempty}
use Rattle.wb_text.proofs.Heads.{line_ends, line_fed, line_clear, line_run}
use Rattle.wb_text.proofs.head.on_same_line.Goals as goal

pub returns-then-is_empty-clause-run : goal.returns-then-is_empty-clause-run
returns-then-is_empty-clause-run c =
    line_ends c.in_ok-next.next.now c.in_ok-next.ensures.gap c.in_ok-next.ensures.all (eqb-true _ 0 (sym c.is_empty.ensures ∙ c.if-is_empty.true))

pub slice_bounds-memchr-count : goal.slice_bounds-memchr-count
slice_bounds-memchr-count c = gap_length c.in_ok-next.ensures.gap

pub returns-in-Some-clause-run : goal.returns-in-Some-clause-run
returns-in-Some-clause-run c = line_fed c.in_ok-next.next.now c.in_ok-next.ensures.gap c.in_ok-next.ensures.all c.in-Some.field-0 c.in-Some.ensures

pub returns-in-None-clause-run : goal.returns-in-None-clause-run
returns-in-None-clause-run c = (
  line_clear c.in_ok-next.next.now c.in_ok-next.ensures.gap c.in_ok-next.ensures.all c.in-None.ensures,
  line_run c.in_ok-next.next.now c.in_ok-next.ensures.gap c.in_ok-next.ensures.all (nonempty _ (sym c.is_empty.ensures ∙ c.if-is_empty.false)),
)
