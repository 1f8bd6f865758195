use Rattle.std.proofs.Common.{◌∙◌, ap, arith}
use Rattle.slices.specs.Parts.{test_size}
use Rattle.slices.specs.Tallies.{TallyValue}
use Rattle.slices.proofs.Cuts.{none_done}
use Rattle.slices.proofs.course.Course.new.Goals as goal

pub invariant_of-result : goal.invariant_of-result
invariant_of-result c =
    let tally = c.in_ok-tally.ensures in
    let none = none_done (test_size c.args.work.test) c.args.total c.in_ok-tally.tally.spans (ap (λ (t : TallyValue). t.spans) tally) in
    record {
      work = ap (λ (t : TallyValue). t.work) tally ∙ c.in_ok-share.ensures;
      some = c.requires;
      done = omega arith;
      below = none.0;
      held = none.1;
    }
