use Rattle.std.proofs.Common.{refl}
use Rattle.std.specs.Prelude.{flat_map}
use Rattle.drawing.specs.Texts.{pair_text}
use Rattle.drawing.proofs.Adding.{added, all_added}
use Rattle.drawing.proofs.lines.push_pairs.Goals as goal

pub loop-arrow-preserved : goal.loop-arrow-preserved
loop-arrow-preserved c =
    let F = flat_map (pair_text c.args.scene.now) in
    added F F c.args.arrows.now c.loop-arrow.arrow-index _ _ c.loop-arrow.out.items c.push_pair.new.out.items _ c.loop-arrow-test.true refl c.in_ok-push_pair.ensures c.loop-arrow.invariant

pub returns : goal.returns
returns c = all_added (flat_map (pair_text c.args.scene.now)) c.args.arrows.now c.loop-arrow.arrow-index c.loop-arrow.out.items _ c.loop-arrow-test.false refl c.loop-arrow.invariant
