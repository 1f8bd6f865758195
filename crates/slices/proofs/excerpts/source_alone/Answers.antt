use Rattle.std.proofs.Common.{◌∙◌, arith}
use Rattle.slices.proofs.Refuting.{one_known, one_more_nobody}
use Rattle.slices.proofs.excerpts.source_alone.Goals as goal

pub returns : goal.returns
returns c x s =
    let many = c.loop-unknown.invariant.many in
    let last = c.loop-unknown-test.false in
    let auto = c.loop-unknown.auto in
    one_known c.loop-unknown.sources.items c.push-2.new.self.items c.args.read c.args.write x c.in_ok-push-2.ensures.items (omega (arith, many, last, auto)) c.loop-unknown.invariant.nobody s
