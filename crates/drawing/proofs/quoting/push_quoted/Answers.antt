use Rattle.std.proofs.Common.{refl}
use Rattle.std.specs.Prelude.{flat_map}
use Rattle.drawing.specs.Dots.{quoted_byte}
use Rattle.drawing.proofs.Adding.{added, all_added}
use Rattle.drawing.proofs.quoting.push_quoted.Goals as goal

pub loop-byte-preserved : goal.loop-byte-preserved
loop-byte-preserved c =
    let F = flat_map quoted_byte in
    added F F c.args.bytes.now c.loop-byte.byte-index 0 _ c.loop-byte.out.items c.push_quoted_byte.new.out.items _ c.loop-byte-test.true refl c.in_ok-push_quoted_byte.ensures c.loop-byte.invariant

pub returns : goal.returns
returns c = all_added (flat_map quoted_byte) c.args.bytes.now c.loop-byte.byte-index c.loop-byte.out.items _ c.loop-byte-test.false refl c.loop-byte.invariant
