use Rattle.std.proofs.Common.{refl}
use Rattle.suite.specs.Expected.{HasFirsts}
use Rattle.suite.proofs.Firsts.{case_of, put_first}
use Rattle.suite.proofs.expected.first_rows.Goals as goal

pub loop-row-init : goal.loop-row-init
unfolding HasFirsts
loop-row-init c = λ r. rw (c.new-firsts.ensures.empty) refl

pub loop-row-preserved : goal.loop-row-preserved
unfolding HasFirsts
loop-row-preserved c = λ r. put_first r c.in-Some.row c.loop-row.yielded c.case_of.result _ _ c.case_of.ensures.path c.case_of.ensures.model (c.in_ok-insert.ensures.updates.0 (case_of r)) (c.loop-row.invariant r)
