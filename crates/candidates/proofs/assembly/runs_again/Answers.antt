use Rattle.std.proofs.Common.{◌≡◌, ◌<◌, ◌≤◌, ℕ, List, length, get_or, subst, sym, ap, refl, ◌∙◌, arith}
use Rattle.std.proofs.lemmas.Bool.{false≢true}
use Rattle.std.proofs.lemmas.List.{get_or_default, take_all}
use Rattle.events.specs.Executions.{ThreadRun, empty_run}
use Rattle.candidates.specs.Outlines.{outline, outlines}
use Rattle.candidates.proofs.Outlining.{as_many}
use Rattle.candidates.proofs.Placed.{drop_one, placed_same}
use Rattle.candidates.proofs.Puts.{put_on, put_all}
use Rattle.candidates.proofs.assembly.runs_again.Goals as goal
use Rattle.candidates.proofs.assembly.runs_again.Goals.{then-branch, else-branch}

pub loop-thread-init : goal.loop-thread-init
loop-thread-init c = record {
  is = refl;
  behind = refl;
  within = omega arith;
  room = omega arith;
  alike = λ h. (let k = c.may_be_like-alike.ensures h in (k.0, omega (arith, k.1, ap (λ (rs : List ThreadRun). length rs) c.deref.ensures.value, ap (λ (rs : List ThreadRun). length rs) c.deref-2.ensures.value), refl));
}

pub loop-thread-preserved : goal.loop-thread-preserved
loop-thread-preserved c =
    let at = c.loop-thread in
    let wanted = c.args.page.now.runs.items in
    let l : at.thread < length wanted = omega (arith, c.loop-thread-test.true, c.len-thread-end.ensures) in
    let run = get_or wanted at.thread empty_run in
    record {
      is = put_on at.runs.items c.put_run.new.runs.items wanted at.thread run l (get_or_default wanted at.thread empty_run run l) c.in_ok-alike.ensures.put at.invariant.is;
      behind = c.in_ok-alike.ensures.behind ∙ drop_one at.runs.items c.args.runs.items at.thread at.invariant.behind;
      within = omega (arith, l);
      room = omega (arith, c.in_ok-alike.ensures.put.1);
      alike = λ h. elim c.if-branch.branch [
        | then-branch w ↦ (let k = at.invariant.alike (sym w.alike-is ∙ h) in (k.0, k.1, c.in_ok-alike.ensures.alike w.if-branch.true ∙ k.2))
        | else-branch w ↦ absurd (false≢true (sym w.if-branch.false ∙ sym w.alike-is ∙ h))
      ];
    }

pub put_run-requires-clause-there : goal.put_run-requires-clause-there
put_run-requires-clause-there c a b e =
    let at = c.loop-thread in
    let page = c.args.page.now in
    let P : List ℕ → Type 0 = λ ps. (at.thread < length ps) × (get_or ps at.thread 0 ≡ get_or page.places.items at.thread 0) in
    let h = subst P c.deref-in-loop-thread.ensures.value (a, e) in
    placed_same c.requires.placed.0 c.args.runs.items at.runs.items page.runs.items c.args.places.now.items page.places.items at.thread c.requires.placed.1 c.requires.placed.2 at.invariant.behind h.0 b h.1

pub returns-clause-runs : goal.returns-clause-runs
returns-clause-runs c =
    let at = c.loop-thread in
    let wanted = c.args.page.now.runs.items in
    put_all at.runs.items wanted c.truncate.new.self.items at.thread c.len.result (omega (arith, c.len.ensures)) (omega (arith, c.len.ensures, at.invariant.within)) (omega (arith, c.len.ensures, c.loop-thread-test.false, c.len-thread-end.ensures)) c.truncate.ensures.items at.invariant.is

pub returns-clause-alike : goal.returns-clause-alike
returns-clause-alike c = λ h.
    let at = c.loop-thread in
    let wanted = c.args.page.now.runs.items in
    let k = at.invariant.alike h in
    let end : length wanted ≤ at.thread = omega (arith, c.loop-thread-test.false, c.len-thread-end.ensures) in
    (k.0, sym k.2 ∙ ap outlines (sym (take_all at.thread at.runs.items (omega (arith, k.1, end, as_many outline at.runs.items c.args.runs.items k.2))) ∙ at.invariant.is ∙ take_all at.thread wanted end))
