use Rattle.std.proofs.Common.{◌∙◌, ◌++◌, ap}
use Rattle.suite.proofs.Pushed.{pushed, all_pushed}
use Rattle.suite.specs.Expected.{same_case, HasFirsts, fate}
use Rattle.std.specs.Prelude.{find, Option}
use Rattle.suite.specs.declared.expected.Row.{Row}
use Rattle.suite.proofs.expected.push_fates.Goals as goal

pub loop-row-preserved : goal.loop-row-preserved
unfolding HasFirsts
loop-row-preserved c = pushed (λ (r : Row). fate r (find (same_case r) c.args.found.now)) c.row-item.result c.args.expected.now c.loop-row.row-index c.loop-row.text.items c.push_fate.new.text.items _ c.loop-row-test.true c.row-item.is (c.in_ok-push_fate.ensures ∙ ap (λ (o : Option Row). c.loop-row.text.items ++ fate c.row-item.result o) (c.row_for.ensures ∙ c.in_ok-firsts.ensures c.row-item.result)) c.loop-row.invariant

pub returns : goal.returns
returns c = all_pushed (λ (r : Row). fate r (find (same_case r) c.args.found.now)) c.args.expected.now c.loop-row.row-index c.loop-row.text.items _ c.loop-row-test.false c.loop-row.invariant
