use Rattle.std.proofs.Common.{◌∙◌, ◌+◌, length, ap, ◌≡◌, arith}
use Rattle.slices.specs.Tallies.{TallyValue}
use Rattle.slices.proofs.Coursing.{covered}
use Rattle.suite.specs.declared.together.Round.{Round}
use Rattle.suite.proofs.EachSlice.{none_yet, found_for}
use Rattle.suite.proofs.together.judge_together.Goals as goal

pub verdict-requires : goal.verdict-requires
verdict-requires g c =
    let all : c.loop-done.done ≡ c.slices_for-total.result = omega (arith, c.loop-done.invariant.within, c.loop-done-test.false) in
    covered _ _ c.loop-done.invariant.before all

pub returns-clause-work : goal.returns-clause-work
returns-clause-work g c = c.in_ok-verdict.ensures.work ∙ c.loop-done.invariant.work

pub merge_round-requires-clause-all : goal.merge_round-requires-clause-all
merge_round-requires-clause-all g c = c.deref.ensures.len ∙ c.in_ok-found.ensures.all

pub merge_round-requires-clause-found : goal.merge_round-requires-clause-found
merge_round-requires-clause-found g c =
    let round : Round = record { total = c.slices_for-total.result; from = c.loop-done.done; to = c.loop-done.done + c.min-count.result; threads = c.min-threads.result } in
    found_for c.loop-done.tally.work c.args.work round c.in_ok-found.found.items c.deref.result.now c.loop-done.invariant.work c.deref.ensures.value c.in_ok-found.ensures.found

pub loop-done-init : goal.loop-done-init
loop-done-init g c = record {
  before = none_yet c.slices_for-total.result c.in_ok-share.field-0 c.in_ok-tally.tally c.slices_for-total.ensures.some c.in_ok-tally.ensures;
  work = ap (λ (t : TallyValue). t.work) c.in_ok-tally.ensures ∙ c.in_ok-share.ensures;
  within = omega arith;
}

pub loop-done-preserved : goal.loop-done-preserved
loop-done-preserved g c = record {
  before = c.in_ok-merge_round.ensures.merged;
  work = c.in_ok-merge_round.ensures.work ∙ c.loop-done.invariant.work;
  within = omega (arith, c.min-count.ensures, c.loop-done.invariant.within);
}

pub loop-done-smaller : goal.loop-done-smaller
loop-done-smaller g c = omega (arith, c.min-count.ensures, c.slices_of_round.ensures, c.loop-done-test.true)

pub overflow_add-done : goal.overflow_add-done
overflow_add-done g c = omega (arith, c.min-count.ensures, c.loop-done.invariant.within, c.slices_for-total.ensures.few)
