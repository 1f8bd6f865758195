use Rattle.std.proofs.Common.{ℕ, ◌≡◌, ◌∙◌, ◌+◌, ◌-◌, ◌<◌, ◌≤◌, [], ◌∷◌, List, length, map, take, drop, get_or, sym, ap, subst, refl, arith, leb-true}
use Rattle.std.proofs.lemmas.List.{drop_all, length-take-le, take-take, take_all}
use Rattle.std.proofs.lemmas.Result.{IfOk-from_err}
use Rattle.events.specs.Executions.{ThreadRun, empty_run}
use Rattle.candidates.specs.declared.impossible.Needs.{Needs}
use Rattle.candidates.specs.Candidates.{choices}
use Rattle.candidates.specs.Executions.{block}
use Rattle.candidates.specs.Groups.{tally_of}
use Rattle.candidates.specs.Impossible.{is_refused, AreNeeds, IsPassed}
use Rattle.candidates.specs.Levels.{places_of, tally_to}
use Rattle.candidates.specs.Located.{choices_by}
use Rattle.candidates.specs.Outlines.{outline, outlines, writings, written}
use Rattle.candidates.specs.Parts.{IsPart}
use Rattle.candidates.proofs.Descent.{down_first, down_next, down_end}
use Rattle.candidates.proofs.Excluded.{as_many_needs, needed_on, needs_here, passed_within, passed_over, refused}
use Rattle.candidates.proofs.Grouping.{events_of, tallies_of}
use Rattle.candidates.proofs.Kept.{as_many_groups, sizes_here, tally_there}
use Rattle.candidates.proofs.Outlining.{as_many}
use Rattle.candidates.proofs.Placed.{placed_cut}
use Rattle.candidates.proofs.Puts.{cut_behind}
use Rattle.candidates.proofs.Reached.{here_default, needs_fit, place_here_within, reached, room_here, size_here, sizes_at, tally_at}
use Rattle.candidates.proofs.Staying.{shows_on, stay_all, stay_fewer, stay_first, stay_on}
use Rattle.candidates.proofs.threads.locate.Goals.{then-thread-threads+else-passed-gt0, else-thread-threads}
use Rattle.candidates.proofs.threads.locate.Goals as goal

pub loop-thread-init : goal.loop-thread-init
loop-thread-init c = record {
  down = down_first (length c.args.threads.now.init.now) c.args.threads.now.runs.now c.args.threads.now.groups.now c.args.number (tally_to (length c.args.threads.now.init.now) c.args.threads.now.groups.now (places_of c.args.levels.now.items) 0) c.requires.threads.tallied c.requires.threads.room c.requires.threads.within c.requires.number refl;
  there = omega arith;
  within = omega arith;
  done = omega arith;
  placed = c.requires.placed;
  same = omega arith;
  stay = stay_first c.args.runs.now.items (length c.args.threads.now.runs.now);
  calm = λ h. (omega (arith, c.len.ensures, leb-true c.len.result (length c.args.threads.now.runs.now) h), refl);
  alike = λ h. (omega (arith, c.len.ensures, leb-true c.len.result (length c.args.threads.now.runs.now) h), refl);
  levels = c.requires.levels;
  chosen = λ h some. c.none-chosen.ensures c.args.threads.now.init.now h.stores;
}

pub place_run-requires-clause-place : goal.place_run-requires-clause-place
place_run-requires-clause-place c =
    let t = c.args.threads.now in
    let at = c.loop-thread in
    let chosen = take at.thread at.runs.items in
    place_here_within t at.levels.items c.args.number at.thread at.rest c.in_ok-choice.choice.place chosen c.requires.threads c.loop-thread-test.true at.invariant.down c.in_ok-choice.ensures.chosen.place

pub choose_run-requires-clause-room : goal.choose_run-requires-clause-room
choose_run-requires-clause-room c =
    let t = c.args.threads.now in
    let at = c.loop-thread in
    let chosen = take at.thread at.runs.items in
    room_here t at.levels.items c.args.number at.thread at.rest chosen c.requires.threads c.loop-thread-test.true at.invariant.down

pub choose_run-requires-clause-most : goal.choose_run-requires-clause-most
choose_run-requires-clause-most c =
    let t = c.args.threads.now in
    let at = c.loop-thread in
    let chosen = take at.thread at.runs.items in
    (size_here t at.levels.items c.args.number at.thread at.rest chosen c.requires.threads c.loop-thread-test.true at.invariant.down).0

pub over-passed-requires-clause-place : goal.over-passed-requires-clause-place
over-passed-requires-clause-place c =
    let t = c.args.threads.now in
    let at = c.loop-thread in
    let chosen = take at.thread at.runs.items in
    let is = c.deref.ensures.value ∙ sizes_here (length t.init.now) t.groups.now c.choose_run.new.levels.items at.thread c.index-level.result.now (tally_at t at.levels.items at.thread) c.choose_run.ensures.levels c.in_ok-choice.ensures.next.0 c.index-level.ensures c.in_ok-choice.ensures.same in
    let P : List ℕ → Type 0 = λ ss. c.in_ok-choice.choice.place < length ss in
    subst P (sym is) c.in_ok-choice.ensures.chosen.place

pub over-passed-requires-clause-many : goal.over-passed-requires-clause-many
over-passed-requires-clause-many c =
    let t = c.args.threads.now in
    let at = c.loop-thread in
    let chosen = take at.thread at.runs.items in
    let is = c.deref.ensures.value ∙ sizes_here (length t.init.now) t.groups.now c.choose_run.new.levels.items at.thread c.index-level.result.now (tally_at t at.levels.items at.thread) c.choose_run.ensures.levels c.in_ok-choice.ensures.next.0 c.index-level.ensures c.in_ok-choice.ensures.same in
    (needs_fit t at.levels.items c.args.number at.thread at.rest chosen c.index-threads-thread.result c.deref.result.now c.requires.threads c.loop-thread-test.true c.if-thread-threads.true at.invariant.down is).0

pub over-passed-requires-clause-most : goal.over-passed-requires-clause-most
over-passed-requires-clause-most c =
    let t = c.args.threads.now in
    let at = c.loop-thread in
    let chosen = take at.thread at.runs.items in
    let is = c.deref.ensures.value ∙ sizes_here (length t.init.now) t.groups.now c.choose_run.new.levels.items at.thread c.index-level.result.now (tally_at t at.levels.items at.thread) c.choose_run.ensures.levels c.in_ok-choice.ensures.next.0 c.index-level.ensures c.in_ok-choice.ensures.same in
    (needs_fit t at.levels.items c.args.number at.thread at.rest chosen c.index-threads-thread.result c.deref.result.now c.requires.threads c.loop-thread-test.true c.if-thread-threads.true at.invariant.down is).1

pub choose_run-requires-clause-number : goal.choose_run-requires-clause-number
choose_run-requires-clause-number c =
    let t = c.args.threads.now in
    let at = c.loop-thread in
    let chosen = take at.thread at.runs.items in
    (size_here t at.levels.items c.args.number at.thread at.rest chosen c.requires.threads c.loop-thread-test.true at.invariant.down).1

pub overflow_add-result : goal.overflow_add-result
overflow_add-result c =
    let t = c.args.threads.now in
    let at = c.loop-thread in
    let chosen = take at.thread at.runs.items in
    let is = c.deref.ensures.value ∙ sizes_here (length t.init.now) t.groups.now c.choose_run.new.levels.items at.thread c.index-level.result.now (tally_at t at.levels.items at.thread) c.choose_run.ensures.levels c.in_ok-choice.ensures.next.0 c.index-level.ensures c.in_ok-choice.ensures.same in
    let runs = get_or t.runs.now at.thread [] in
    let more = drop (at.thread + 1) t.runs.now in
    let choice = c.in_ok-choice.choice in
    let sizes = sizes_at t at.levels.items at.thread in
    let needs = get_or t.needs.now at.thread c.index-threads-thread.result in
    let marks = map (is_refused at.chosen needs.behind) needs.needs.items in
    let P : List ℕ → Type 0 = λ ss. IsPassed marks ss choice.place c.over-passed.result in
    let over = subst P is c.over-passed.ensures in
    let e = reached t at.levels.items c.args.number at.thread at.rest chosen c.requires.threads c.loop-thread-test.true at.invariant.down in
    omega (arith, passed_within (length t.init.now) (choices t.runs.now) c.args.number at.rest choice.rest (tally_at t at.levels.items at.thread) chosen runs more sizes marks choice.place c.over-passed.result e.down e.are c.in_ok-choice.ensures.chosen.sum over, c.requires.threads.most)

pub returns-then-passed-gt0-clause-located : goal.returns-then-passed-gt0-clause-located
returns-then-passed-gt0-clause-located c =
    let t = c.args.threads.now in
    let at = c.loop-thread in
    let chosen = take at.thread at.runs.items in
    let is = c.deref.ensures.value ∙ sizes_here (length t.init.now) t.groups.now c.choose_run.new.levels.items at.thread c.index-level.result.now (tally_at t at.levels.items at.thread) c.choose_run.ensures.levels c.in_ok-choice.ensures.next.0 c.index-level.ensures c.in_ok-choice.ensures.same in
    let runs = get_or t.runs.now at.thread [] in
    let more = drop (at.thread + 1) t.runs.now in
    let choice = c.in_ok-choice.choice in
    let sizes = sizes_at t at.levels.items at.thread in
    let needs = get_or t.needs.now at.thread c.index-threads-thread.result in
    let marks = map (is_refused at.chosen needs.behind) needs.needs.items in
    let P : List ℕ → Type 0 = λ ss. IsPassed marks ss choice.place c.over-passed.result in
    let over = subst P is c.over-passed.ensures in
    let e = reached t at.levels.items c.args.number at.thread at.rest chosen c.requires.threads c.loop-thread-test.true at.invariant.down in
    let has = needs_here t.init.now t.runs.now t.needs.now at.thread c.index-threads-thread.result c.requires.threads.needs c.if-thread-threads.true in
    passed_over (choices_by t) c.args.number at.rest choice.rest (tally_at t at.levels.items at.thread) chosen runs more sizes marks choice.place c.over-passed.result
    (refused t.init.now c.requires.threads.needs.stores chosen t.runs.now at.thread at.chosen needs marks (at.invariant.chosen c.requires.threads.needs (omega (arith, c.if-thread-threads.true))) has refl) e.down e.are c.in_ok-choice.ensures.chosen.sum over
    c.in_ok-choice.ensures.chosen.place c.in_ok-choice.ensures.chosen.within (omega (arith, c.if-passed-gt0.true))

pub loop-thread-preserved : goal.loop-thread-preserved
loop-thread-preserved c =
    let t = c.args.threads.now in
    let at = c.loop-thread in
    let chosen = take at.thread at.runs.items in
    let n = length t.init.now in
    let l = c.loop-thread-test.true in
    let choice = c.in_ok-choice.choice in
    let found = c.in_ok-choice.ensures.chosen in
    let next = c.in_ok-choice.ensures.next in
    let longer = take (at.thread + 1) c.place_run.new.runs.items in
    let run = get_or (get_or t.runs.now at.thread []) choice.place empty_run in
    let here = get_or (get_or t.groups.now at.thread []) choice.place [] in
    let e = reached t at.levels.items c.args.number at.thread at.rest chosen c.requires.threads l at.invariant.down in
    let m = place_here_within t at.levels.items c.args.number at.thread at.rest choice.place chosen c.requires.threads l at.invariant.down found.place in
    record {
      there = omega (arith, next.0);
      down = down_next n (choices t.runs.now) c.args.number at.rest choice.rest (tally_at t at.levels.items at.thread) here (tally_at t c.choose_run.new.levels.items (at.thread + 1)) chosen longer (get_or t.runs.now at.thread []) (drop (at.thread + 1) t.runs.now)
          (sizes_at t at.levels.items at.thread) choice.place run e.down e.are found.place found.within found.sum refl
          (tally_there (λ (r : ThreadRun). tally_of n r.events) t.groups.now t.runs.now at.thread choice.place (get_or t.groups.now at.thread []) here run c.requires.threads.tallied l (here_default t at.thread c.requires.threads l) m refl refl) next.1
          c.in_ok-change.ensures.put;
      within = omega (arith, l);
      done = omega (arith, c.in_ok-change.ensures.done);
      placed = c.place_run.ensures.placed;
      same = stay_fewer at.thread at.kept.same c.joined-kept.result.same (length t.runs.now) c.in_ok-change.change c.joined-kept.ensures.same at.invariant.same;
      stay = stay_on at.runs.items c.place_run.new.runs.items c.args.runs.now.items at.thread at.kept.same c.joined-kept.result.same _ c.in_ok-change.change c.joined-kept.ensures.same (omega (arith, at.invariant.done, at.invariant.placed.there)) c.in_ok-change.ensures.put c.in_ok-change.ensures.same at.invariant.stay;
      calm = λ h. (let both = c.joined-kept.ensures.calm h in let k = at.invariant.calm both.0 in (k.0, shows_on writings at.runs.items c.place_run.new.runs.items (λ like. like.calm) c.in_ok-change.change c.in_ok-change.ensures.same c.in_ok-change.ensures.calm both.1 ∙ k.1));
      alike = λ h. (let both = c.joined-kept.ensures.alike h in let k = at.invariant.alike both.0 in (k.0, shows_on outlines at.runs.items c.place_run.new.runs.items (λ like. like.alike) c.in_ok-change.change c.in_ok-change.ensures.same c.in_ok-change.ensures.alike both.1 ∙ k.1));
      levels = c.choose_run.ensures.levels;
      chosen = λ h some. elim c.if-thread-threads.branch [
        | then-thread-threads+else-passed-gt0 w ↦ (let P : Needs → Type 0 = λ k. AreNeeds t.init.now h.stores (events_of longer) k in
            subst P (sym w.chosen-is) (needed_on t.init.now t.runs.now t.needs.now at.thread w.index-threads-thread.result at.chosen w.at.result w.with-next.result chosen longer choice.place h w.if-thread-threads.true m w.at.ensures
            (at.invariant.chosen h (omega (arith, some))) c.in_ok-change.ensures.put (w.with-next.ensures t.init.now h.stores (events_of chosen) run.events)))
        | else-thread-threads w ↦ absurd (omega (arith, some, w.if-thread-threads.false))
      ];
    }

pub returns-clause-located : goal.returns-clause-located
returns-clause-located c =
    let n = length c.args.threads.now.init.now in
    let threads = c.args.threads.now.runs.now in
    let at = c.loop-thread in
    let P : List ThreadRun → Type 0 = λ rs. (at.rest ≤ c.args.number) × (at.rest < block n rs) × IsPart n (choices threads) (c.args.number - at.rest) (rs ∷ []) in
    subst P (sym (cut_behind at.runs.items c.truncate.new.self.items at.thread (length threads) at.invariant.within (omega (arith, c.loop-thread-test.false)) c.truncate.ensures.items))
    (down_end n (choices threads) c.args.number at.rest (tally_to n c.args.threads.now.groups.now (places_of at.levels.items) at.thread) (take at.thread at.runs.items) (drop at.thread threads) (drop_all at.thread threads (omega (arith, c.loop-thread-test.false))) at.invariant.down)

pub bounds-threads-thread : goal.bounds-threads-thread
bounds-threads-thread c = c.if-thread-threads.true

pub at-requires : goal.at-requires
at-requires c =
    let t = c.args.threads.now in
    let at = c.loop-thread in
    let chosen = take at.thread at.runs.items in
    let has = needs_here t.init.now t.runs.now t.needs.now at.thread c.index-threads-thread.result c.requires.threads.needs c.if-thread-threads.true in
    omega (
      arith,
      place_here_within t at.levels.items c.args.number at.thread at.rest c.in_ok-choice.choice.place chosen c.requires.threads c.loop-thread-test.true at.invariant.down c.in_ok-choice.ensures.chosen.place,
      as_many_needs t.init.now c.requires.threads.needs.stores t.runs.now at.thread (get_or t.needs.now at.thread c.index-threads-thread.result) has,
    )

pub choose_run-requires-clause-levels : goal.choose_run-requires-clause-levels
choose_run-requires-clause-levels c = c.loop-thread.invariant.levels

pub choose_run-requires-clause-thread : goal.choose_run-requires-clause-thread
choose_run-requires-clause-thread c = as_many_groups (tallies_of (length c.args.threads.now.init.now)) c.args.threads.now.groups.now c.args.threads.now.runs.now c.loop-thread.thread c.requires.threads.tallied c.loop-thread-test.true

pub returns-in_err-choice-clause-located : goal.returns-in_err-choice-clause-located
returns-in_err-choice-clause-located c = IfOk-from_err c.from_residual.result _ c.from_residual.ensures.0

pub returns-in_err-choice-clause-levels : goal.returns-in_err-choice-clause-levels
returns-in_err-choice-clause-levels c = c.choose_run.ensures.levels

pub overflow_sub-result : goal.overflow_sub-result
overflow_sub-result c = omega (arith, c.in_ok-choice.ensures.chosen.sum, c.loop-thread.invariant.down.order)

pub returns-then-passed-gt0-clause-levels : goal.returns-then-passed-gt0-clause-levels
returns-then-passed-gt0-clause-levels c = c.choose_run.ensures.levels

pub place_run-requires-clause-thread : goal.place_run-requires-clause-thread
place_run-requires-clause-thread c = c.loop-thread-test.true

pub place_run-requires-clause-done : goal.place_run-requires-clause-done
place_run-requires-clause-done c = c.loop-thread.invariant.done

pub place_run-requires-clause-placed : goal.place_run-requires-clause-placed
place_run-requires-clause-placed c = c.loop-thread.invariant.placed

pub returns-clause-levels : goal.returns-clause-levels
returns-clause-levels c = c.loop-thread.invariant.levels

pub returns-clause-kept : goal.returns-clause-kept
returns-clause-kept c =
    let at = c.loop-thread in
    let n = length c.args.threads.now.runs.now in
    let runs = at.runs.items in
    let m : length (take n runs) ≡ n = length-take-le n runs (omega (arith, at.invariant.done, at.invariant.placed.there, c.loop-thread-test.false)) in
    let cut = c.truncate.ensures.items in
    let len = ap (λ (rs : List ThreadRun). length rs) cut in
    let all : length runs ≤ n → c.truncate.new.self.items ≡ runs = λ few. cut ∙ take_all n runs few in
    record {
      few = omega (arith, len, m, at.invariant.same);
      same = ap (take at.kept.same) cut ∙ take-take at.kept.same n runs (omega (arith, at.invariant.same)) ∙ stay_all runs c.args.runs.now.items at.thread at.kept.same (omega (arith, at.invariant.same, c.loop-thread-test.false)) at.invariant.stay;
      calm = λ h. (let k = at.invariant.calm h in ap writings (all (omega (arith, k.0, as_many written runs c.args.runs.now.items k.1))) ∙ k.1);
      alike = λ h. (let k = at.invariant.alike h in ap outlines (all (omega (arith, k.0, as_many outline runs c.args.runs.now.items k.1))) ∙ k.1);
    }

pub returns-clause-placed : goal.returns-clause-placed
returns-clause-placed c =
    let at = c.loop-thread in
    let h = at.invariant.placed in
    placed_cut c.args.threads.now.runs.now at.runs.items c.truncate.new.self.items at.places.items (length c.args.threads.now.runs.now) h h.few c.truncate.ensures.items

pub choose_run-requires-clause-there : goal.choose_run-requires-clause-there
choose_run-requires-clause-there c = c.loop-thread.invariant.there
