use Rattle.std.proofs.Common.{◌∙◌, arith, map, sym}
use Rattle.candidates.specs.Impossible.{is_refused}
use Rattle.candidates.proofs.Adding.{take_on}
use Rattle.candidates.proofs.Marking.{marked_next, sum_fits}
use Rattle.candidates.proofs.impossible.ThreadNeeds.passed.Goals as goal

pub overflow_add-sum : goal.overflow_add-sum
overflow_add-sum c = sum_fits c.args.sizes.now c.args.place c.loop-end.end c.loop-end.sum c.loop-end-test.true c.loop-end.invariant.sum c.requires.most

pub loop-end-preserved : goal.loop-end-preserved
loop-end-preserved c =
    let at = c.loop-end in
    let marks = map (is_refused c.args.chosen c.args.self.now.behind) c.args.self.now.needs.items in
    record {
      order = omega (arith, at.invariant.order);
      within = omega (arith, c.loop-end-test.true);
      sum = omega (arith, at.invariant.sum, take_on c.args.sizes.now at.end c.loop-end-test.true);
      marked = marked_next marks c.args.place at.end (sym c.is_refused.ensures ∙ c.if-not-is_refused.false) at.invariant.marked;
    }

pub returns-then-not-is_refused : goal.returns-then-not-is_refused
returns-then-not-is_refused c =
    let at = c.loop-end in
    record { end = at.end; order = at.invariant.order; within = at.invariant.within; sum = at.invariant.sum; marked = at.invariant.marked }

pub returns : goal.returns
returns c =
    let at = c.loop-end in
    record { end = at.end; order = at.invariant.order; within = at.invariant.within; sum = at.invariant.sum; marked = at.invariant.marked }
