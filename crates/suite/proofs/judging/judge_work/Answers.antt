use Rattle.std.proofs.Common.{◌∙◌, ◌+◌, ap}
use Rattle.slices.specs.Courses.{CourseValue}
use Rattle.suite.proofs.judging.judge_work.Goals as goal

pub loop-slice-preserved : goal.loop-slice-preserved
loop-slice-preserved g c = c.in_ok-step.ensures.done ∙ ap (λ (x : CourseValue). record x { done = x.done + 1 }) c.loop-slice.invariant

pub returns-clause-work : goal.returns-clause-work
returns-clause-work g c = c.in_ok-verdict.ensures.work ∙ ap (λ (x : CourseValue). x.work) c.loop-slice.invariant
