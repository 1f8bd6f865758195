use Rattle.std.proofs.Common.{◌≡◌, ◌∷◌, [], ◌++◌, ◌∙◌, length, ap, arith}
use Rattle.std.specs.Vec.Iter.{into_iter_items}
use Rattle.events.specs.Executions.{ThreadRun}
use Rattle.c11_threads.specs.Runs.{run_of}
use Rattle.c11_threads.proofs.Filling.{made_on, all_made}
use Rattle.c11_threads.proofs.running.runs_from.Goals as goal

pub loop-end-preserved : goal.loop-end-preserved
loop-end-preserved c =
    let at = c.loop-end in
    let rest = into_iter_items c.next.new.self in
    let done = at.runs.items in
    let steps : into_iter_items at.end-iterator ≡ c.in-Some.end ∷ rest = c.in-Some.ensures.steps.0 in
    let more = c.in_ok-push.ensures.items ∙ ap (λ (r : ThreadRun). done ++ (r ∷ [])) c.in_ok-run.ensures in
    record {
      is = made_on run_of (into_iter_items at.end-iterator) rest c.in-Some.end done c.push.new.self.items _ steps more at.invariant.is;
      left = omega (arith, c.in-Some.ensures.steps.1, at.invariant.left, ap length steps);
    }

pub returns : goal.returns
returns c =
    let at = c.loop-end in
    let none : length (into_iter_items at.end-iterator) ≡ 0 = omega (arith, c.in-None.ensures.steps.0, at.invariant.left) in
    all_made run_of (into_iter_items at.end-iterator) at.runs.items _ none at.invariant.is
