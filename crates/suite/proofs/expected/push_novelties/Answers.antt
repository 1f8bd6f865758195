use Rattle.std.proofs.Common.{◌∙◌, ◌++◌, ap}
use Rattle.suite.proofs.Pushed.{pushed, all_pushed}
use Rattle.suite.specs.Expected.{same_case, HasFirsts, novelty}
use Rattle.std.specs.Prelude.{find, Option}
use Rattle.suite.specs.declared.expected.Row.{Row}
use Rattle.suite.proofs.expected.push_novelties.Goals as goal

pub loop-row-preserved : goal.loop-row-preserved
unfolding HasFirsts
loop-row-preserved c = pushed (λ (s : Row). novelty s (find (same_case s) c.args.expected.now)) c.row-item.result c.args.found.now c.loop-row.row-index c.loop-row.text.items c.push_novelty.new.text.items _ c.loop-row-test.true c.row-item.is (c.in_ok-push_novelty.ensures ∙ ap (λ (o : Option Row). c.loop-row.text.items ++ novelty c.row-item.result o) (c.row_for.ensures ∙ c.in_ok-firsts.ensures c.row-item.result)) c.loop-row.invariant

pub returns : goal.returns
returns c = all_pushed (λ (s : Row). novelty s (find (same_case s) c.args.expected.now)) c.args.found.now c.loop-row.row-index c.loop-row.text.items _ c.loop-row-test.false c.loop-row.invariant
