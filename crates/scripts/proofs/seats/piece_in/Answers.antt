use Rattle.std.proofs.Common.{rules, subst}
use Rattle.scripts.specs.Serving.{GivesNone}
use Rattle.scripts.proofs.Pieces.{pass_on}
use Rattle.scripts.proofs.seats.piece_in.Goals as goal

pub loop-pass-preserved : goal.loop-pass-preserved
loop-pass-preserved g c =
    pass_on c.args.claim c.loop-pass.pass-index c.args.passes.now c.pass-item.result (search rules) (search rules) (subst (GivesNone c.args.claim) c.receipts.ensures.receipts c.in_default.ensures) c.loop-pass.invariant
