use Rattle.std.proofs.Common.{◌≡◌, ◌∙◌, ◌+◌, ◌≤◌, take, sym, true, false, arith}
use Rattle.std.specs.List.{count_by}
use Rattle.test_places.specs.Rules.{is_head}
use Rattle.test_places.proofs.Noting.{count_more, few_more}
use Rattle.test_places.proofs.limits.thread_too_many.Goals.{then-is_head+else-heads-ge-MOST_NAMED, else-is_head}
use Rattle.test_places.proofs.limits.thread_too_many.Goals as goal

pub returns-then-heads-ge-MOST_NAMED : goal.returns-then-heads-ge-MOST_NAMED
returns-then-heads-ge-MOST_NAMED c =
    let marks = c.args.marks.now in
    let place = c.loop-place.place in
    record {
      within = c.loop-place-test.true;
      few = c.loop-place.invariant.few;
      many = omega (arith, c.if-heads-ge-MOST_NAMED.true, c.loop-place.invariant.heads, count_more is_head marks place c.index-marks-place.result true c.loop-place-test.true c.index-marks-place.is (sym c.if-is_head.true ∙ c.is_head.ensures));
    }

pub loop-place-preserved : goal.loop-place-preserved
loop-place-preserved c =
    let marks = c.args.marks.now in
    let place = c.loop-place.place in
    let next : (c.if-is_head.heads ≡ count_by is_head (take (place + 1) marks)) × (count_by is_head (take (place + 1) marks) ≤ 8) =
    elim c.if-is_head.branch [
      | then-is_head+else-heads-ge-MOST_NAMED w ↦
          let more = count_more is_head marks place c.index-marks-place.result true c.loop-place-test.true c.index-marks-place.is (sym w.if-is_head.true ∙ c.is_head.ensures) in
          (omega (arith, w.heads-is, more, c.loop-place.invariant.heads), omega (arith, w.if-heads-ge-MOST_NAMED.false, more, c.loop-place.invariant.heads))
      | else-is_head w ↦
          let more = count_more is_head marks place c.index-marks-place.result false c.loop-place-test.true c.index-marks-place.is (sym w.if-is_head.false ∙ c.is_head.ensures) in
          (omega (arith, w.heads-is, more, c.loop-place.invariant.heads), omega (arith, more, c.loop-place.invariant.few place (omega arith)))
    ] in
    record { heads = next.0; few = few_more (count_by is_head) 8 marks place c.loop-place.invariant.few next.1 }
