use Rattle.std.proofs.Common.{◌≡◌, ◌≤◌, ◌-◌}
use Rattle.slices.proofs.verdict.Verdict.judge.Given as goal

abbrev pub decreases-loop-course : goal.decreases-loop-course
decreases-loop-course l = l.course.total - l.course.done

abbrev pub invariant-loop-course : goal.invariant-loop-course
invariant-loop-course l = record {
  work : l.course.work ≡ l.fn.work;
  done : l.course.done ≤ l.course.total;
}
