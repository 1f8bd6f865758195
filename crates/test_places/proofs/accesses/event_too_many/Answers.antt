use Rattle.std.proofs.Common.{◌≡◌, ◌∙◌, ◌+◌, ◌≤◌, ℕ, sym, ap, true, false, map, refl, arith, take}
use Rattle.std.specs.List.{count_by}
use Rattle.test_places.specs.Accesses.{events_with, threads_among, is_access}
use Rattle.test_places.proofs.Noting.{count_more, few_more}
use Rattle.test_places.proofs.accesses.event_too_many.Goals.{then-is_access+else-room_behind-eq0, else-is_access}
use Rattle.litmus_syntax.specs.Drafts.{listing_of}
use Rattle.test_places.proofs.Counting.{few_at_first}
use Rattle.std.proofs.lemmas.List.Sums.{count_by-le-length}
use Rattle.std.proofs.lemmas.List.{length-take}
use Rattle.test_places.proofs.accesses.event_too_many.Goals as goal

pub loop-place-init : goal.loop-place-init
loop-place-init c = record { left = refl; few = few_at_first c.args.writes (map listing_of c.args.bodies.now) c.args.marks.now (omega (arith, c.if-writes-gt-MOST_EVENTS.false)) }

pub overflow_add-left : goal.overflow_add-left
overflow_add-left c = omega (arith, c.loop-place.invariant.left, count_by-le-length is_access (take c.loop-place.place c.args.marks.now), length-take c.loop-place.place c.args.marks.now)

pub returns-then-room_behind-eq0 : goal.returns-then-room_behind-eq0
returns-then-room_behind-eq0 c =
    let marks = c.args.marks.now in
    let place = c.loop-place.place in
    let more : count_by is_access (take (place + 1) marks) ≡ c.loop-place.left + 1 = omega (arith, c.loop-place.invariant.left, count_more is_access marks place c.index-marks-place.result true c.loop-place-test.true c.index-marks-place.is (c.if-is_access.ensures)) in
    record {
      within = c.loop-place-test.true;
      few = c.loop-place.invariant.few;
      many = omega (arith, c.if-writes-gt-MOST_EVENTS.false, c.if-room_behind-eq0.true, c.room_behind.ensures, ap (λ (n : ℕ). threads_among n (map listing_of c.args.bodies.now)) more);
    }

pub loop-place-preserved : goal.loop-place-preserved
loop-place-preserved c =
    let marks = c.args.marks.now in
    let place = c.loop-place.place in
    let bodies = map listing_of c.args.bodies.now in
    let among : ℕ → ℕ = λ n. threads_among n bodies in
    let next : (c.if-is_access.left ≡ count_by is_access (take (place + 1) marks)) × (events_with c.args.writes bodies (take (place + 1) marks) ≤ 64) =
    elim c.if-is_access.branch [
      | then-is_access+else-room_behind-eq0 w ↦
          let more : count_by is_access (take (place + 1) marks) ≡ c.loop-place.left + 1 = omega (arith, c.loop-place.invariant.left, count_more is_access marks place c.index-marks-place.result true c.loop-place-test.true c.index-marks-place.is (sym w.if-is_access.true ∙ c.is_access.ensures)) in
          (omega (arith, w.left-is, more), omega (arith, w.if-room_behind-eq0.false, w.room_behind.ensures, ap among more))
      | else-is_access w ↦
          let more : count_by is_access (take (place + 1) marks) ≡ count_by is_access (take place marks) = omega (arith, count_more is_access marks place c.index-marks-place.result false c.loop-place-test.true c.index-marks-place.is (sym w.if-is_access.false ∙ c.is_access.ensures)) in
          (omega (arith, w.left-is, more, c.loop-place.invariant.left), omega (arith, ap among more, c.loop-place.invariant.few place (omega arith)))
    ] in
    record { left = next.0; few = few_more (events_with c.args.writes bodies) 64 marks place c.loop-place.invariant.few next.1 }
