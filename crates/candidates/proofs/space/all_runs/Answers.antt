use Rattle.std.proofs.Common.{◌∙◌, ◌<◌, ap, arith, length}
use Rattle.std.proofs.lemmas.Result.{err_from_is_err_and}
use Rattle.candidates.proofs.Spaces.{first_fault, few_more, all_few, next_list, all_lists, short_all, within_all}
use Rattle.candidates.proofs.space.all_runs.Goals as goal

pub returns-in_err-runs-clause-fault : goal.returns-in_err-runs-clause-fault
returns-in_err-runs-clause-fault c =
    let p = err_from_is_err_and c.from_residual.result c.from_residual.ensures.1 in
    let l : c.loop-thread.thread < length c.args.test.now.threads = omega (arith, c.loop-thread-test.true, ap (λ ps. length ps) c.threads-thread-end.ensures.value) in
    rw (p.1, p.2) (first_fault c.args.test.now c.loop-thread.thread c.in_err-runs.field-0.0 l c.loop-thread.invariant.few c.in_err-runs.ensures.fault)

pub loop-thread-preserved : goal.loop-thread-preserved
loop-thread-preserved c =
    let l : c.loop-thread.thread < length c.args.test.now.threads = omega (arith, c.loop-thread-test.true, ap (λ ps. length ps) c.threads-thread-end.ensures.value) in
    record {
      is = next_list c.args.test.now (length c.args.test.now.threads) c.loop-thread.thread c.loop-thread.lists.items c.push.new.self.items c.new.result _ l
          (c.new.ensures ∙ c.in_ok-runs.ensures.order) c.in_ok-push.ensures.items c.loop-thread.invariant.is;
      few = few_more c.args.test.now c.loop-thread.thread c.in_ok-runs.field-0.items c.loop-thread.invariant.few c.in_ok-runs.ensures.order c.in_ok-runs.ensures.within;
      within = omega (arith, l);
    }

pub returns-clause-lists : goal.returns-clause-lists
returns-clause-lists c = all_lists c.args.test.now c.loop-thread.thread c.loop-thread.lists.items (omega (arith, c.loop-thread-test.false, ap (λ ps. length ps) c.threads-thread-end.ensures.value)) c.loop-thread.invariant.is

pub returns-clause-few : goal.returns-clause-few
returns-clause-few c = all_few c.args.test.now c.loop-thread.thread (omega (arith, c.loop-thread-test.false, ap (λ ps. length ps) c.threads-thread-end.ensures.value)) c.loop-thread.invariant.few

pub returns-clause-short : goal.returns-clause-short
returns-clause-short c =
    short_all c.args.test.now c.loop-thread.lists.items c.threads-thread-end.ensures.test
    (all_lists c.args.test.now c.loop-thread.thread c.loop-thread.lists.items (omega (arith, c.loop-thread-test.false, ap (λ ps. length ps) c.threads-thread-end.ensures.value)) c.loop-thread.invariant.is)

pub returns-clause-within : goal.returns-clause-within
returns-clause-within c =
    within_all c.args.test.now c.loop-thread.lists.items c.threads-thread-end.ensures.test
    (all_lists c.args.test.now c.loop-thread.thread c.loop-thread.lists.items (omega (arith, c.loop-thread-test.false, ap (λ ps. length ps) c.threads-thread-end.ensures.value)) c.loop-thread.invariant.is)

pub runs-requires : goal.runs-requires
runs-requires c = omega (arith, c.loop-thread-test.true, ap (λ ts. length ts) c.threads-thread-end.ensures.value)
