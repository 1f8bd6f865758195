use Rattle.std.proofs.Common.{refl}
use Rattle.std.specs.Prelude.{flat_map}
use Rattle.drawing.specs.Arrows.{overtaken}
use Rattle.drawing.proofs.Adding.{added, all_added}
use Rattle.drawing.proofs.arrows.fr_among.Goals as goal

pub loop-read-preserved : goal.loop-read-preserved
loop-read-preserved c =
    let F = flat_map (overtaken c.args.co.now) in
    added F F c.args.rf.now c.loop-read.read-index _ _ c.loop-read.arrows.items c.push_overtaken.new.arrows.items _ c.loop-read-test.true refl c.in_ok-push_overtaken.ensures c.loop-read.invariant

pub returns : goal.returns
returns c = all_added (flat_map (overtaken c.args.co.now)) c.args.rf.now c.loop-read.read-index c.loop-read.arrows.items _ c.loop-read-test.false refl c.loop-read.invariant
