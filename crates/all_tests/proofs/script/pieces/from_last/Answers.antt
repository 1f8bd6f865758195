use Rattle.std.proofs.Common.{◌≡◌, ◌≤◌, ◌∙◌, ap, arith, subst, sym}
use Rattle.slices.specs.Parts.{PieceValue, test_size}
use Rattle.slices.specs.Tallies.{IsCover, TallyValue, span_of}
use Rattle.slices.specs.Works.{WorkValue}
use Rattle.all_tests.proofs.Quarters.{all_down, apart_down, more_down}
use Rattle.all_tests.proofs.script.pieces.from_last.Goals as goal

pub merge-requires-clause-apart : goal.merge-requires-clause-apart
merge-requires-clause-apart c =
    apart_down (span_of c.in_ok-part.part) c.loop-high.high (test_size c.args.work.now.test) c.loop-high.tally.spans (ap (λ (p : PieceValue). p.to) (c.in_ok-part.ensures ∙ c.new-piece.ensures)) c.loop-high.invariant.down

pub loop-high-preserved : goal.loop-high-preserved
loop-high-preserved c =
    let piece = c.in_ok-part.ensures ∙ c.new-piece.ensures in
    let order : c.saturating_sub-low.result ≤ c.loop-high.high = omega (arith, c.saturating_sub-low.ensures) in
    let most = c.loop-high.invariant.most in
    record {
      down = more_down (span_of c.in_ok-part.part) c.saturating_sub-low.result c.loop-high.high (test_size c.args.work.now.test) c.loop-high.tally.spans c.merge.new.self.spans
          (ap (λ (p : PieceValue). p.from) piece) (ap (λ (p : PieceValue). p.to) piece) order c.loop-high.invariant.down (ap (λ (t : TallyValue). t.spans) c.in-Ok.ensures.merged);
      work = ap (λ (t : TallyValue). t.work) c.in-Ok.ensures.merged ∙ c.loop-high.invariant.work;
      most = omega (arith, order, most);
    }

pub verdict-requires : goal.verdict-requires
verdict-requires c =
    subst (λ (w : WorkValue). IsCover (test_size w.test) c.loop-high.tally.spans) (sym c.loop-high.invariant.work)
    (all_down c.loop-high.high (test_size c.args.work.now.test) c.loop-high.tally.spans (omega (arith, c.loop-high-test.false)) c.loop-high.invariant.down)
