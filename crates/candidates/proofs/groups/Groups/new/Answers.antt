use Rattle.std.proofs.Common.{◌∙◌, ap, arith, ◌++◌, List, sym, append-nil, map}
use Rattle.std.proofs.lemmas.List.{get_or_default, at_drop_all}
use Rattle.events.specs.Executions.{ThreadRun, empty_run}
use Rattle.candidates.specs.Groups.{tally_of, spread}
use Rattle.candidates.proofs.Grouping.{known_group, fresh_group, grouped_on}
use Rattle.std.proofs.lemmas.Result.{IfOk-from_err}
use Rattle.candidates.specs.declared.counts.Counts.{Counts}
use Rattle.candidates.proofs.groups.Groups.new.Goals as goal
use Rattle.candidates.proofs.groups.Groups.new.Goals.{in-Some+in_ok-push-in-Some, in-None+in_ok-push-in-None+in_ok-push-in-None-2}

pub loop-run-preserved : goal.loop-run-preserved
loop-run-preserved c =
    let n = c.args.locations in
    let ts = c.loop-run.tallies.items in
    let ps = c.loop-run.places.items in
    let e = c.in_ok-tally.ensures ∙ ap (tally_of n) (c.events.ensures ∙ ap (λ (r : ThreadRun). r.events) (c.run-item.is ∙ get_or_default c.args.runs.now c.loop-run.run-index c.run-item.result empty_run c.loop-run-test.true)) in
    elim c.match-place_of.branch [
      | in-Some+in_ok-push-in-Some w ↦
          (let q = rw (w.in-Some.is, c.deref.ensures.value) at c.place_of.ensures in
          let k = known_group ts ps w.push.new.self.items w.in-Some.place c.in_ok-tally.tally c.loop-run.invariant.places q.0 q.1 w.in_ok-push-in-Some.ensures.items in
          let g = grouped_on n c.args.runs.now c.loop-run.run-index ts ts ps w.push.new.self.items c.in_ok-tally.tally c.loop-run-test.true e k c.loop-run.invariant.is in
          rw (w.tallies-is, w.places-is) (record { places = g.0; is = g.1 }))
      | in-None+in_ok-push-in-None+in_ok-push-in-None-2 w ↦
          (let k = fresh_group ts w.push-in-None-2.new.self.items ps w.push-in-None.new.self.items w.len.result c.in_ok-tally.tally c.loop-run.invariant.places (omega (arith, w.len.ensures)) w.in_ok-push-in-None-2.ensures.items w.in_ok-push-in-None.ensures.items in
          let g = grouped_on n c.args.runs.now c.loop-run.run-index ts w.push-in-None-2.new.self.items ps w.push-in-None.new.self.items c.in_ok-tally.tally c.loop-run-test.true e k c.loop-run.invariant.is in
          rw (w.tallies-is, w.places-is) (record { places = g.0; is = g.1 }))
    ]

pub returns-in_err-tally : goal.returns-in_err-tally
returns-in_err-tally c = IfOk-from_err c.from_residual.result _ c.from_residual.ensures.0

pub returns-in_err-push-in-Some : goal.returns-in_err-push-in-Some
returns-in_err-push-in-Some c = IfOk-from_err c.from_residual-in_err-push-in-Some.result _ c.from_residual-in_err-push-in-Some.ensures.0

pub returns-in_err-push-in-None : goal.returns-in_err-push-in-None
returns-in_err-push-in-None c = IfOk-from_err c.from_residual-in_err-push-in-None.result _ c.from_residual-in_err-push-in-None.ensures.0

pub returns-in_err-push-in-None-2 : goal.returns-in_err-push-in-None-2
returns-in_err-push-in-None-2 c = IfOk-from_err c.from_residual-in_err-push-in-None-2.result _ c.from_residual-in_err-push-in-None-2.ensures.0

pub invariant_of-result : goal.invariant_of-result
invariant_of-result c = c.loop-run.invariant.places

pub returns : goal.returns
returns c =
    let done = spread c.loop-run.tallies.items c.loop-run.places.items in
    let F = map (λ (run : ThreadRun). tally_of c.args.locations run.events) in
    sym (append-nil done) ∙ ap (λ (ts : List (List Counts)). done ++ ts) (sym (at_drop_all F c.args.runs.now c.loop-run.run-index c.loop-run-test.false)) ∙ c.loop-run.invariant.is
