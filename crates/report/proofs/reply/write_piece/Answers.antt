use Rattle.std.proofs.Common.{[], refl}
use Rattle.std.proofs.KnownBytes.{Appends-nil}
use Rattle.report.proofs.Written.{exit, after}
use Rattle.report.specs.Replies.{claim_text, range_text}
use Rattle.report.proofs.reply.write_piece.Goals as goal

pub returns-in_err-write_claim : goal.returns-in_err-write_claim
returns-in_err-write_claim g c =
    exit _ _ _ _ c.from_residual.result [] (claim_text c.args.piece.now) (range_text c.args.piece.now) _ c.from_residual.ensures.0 (Appends-nil _) c.in_err-write_claim.ensures refl

pub returns : goal.returns
returns g c =
    after _ _ _ _ _ (claim_text c.args.piece.now) (range_text c.args.piece.now) _ c.in_ok-write_claim.ensures c.write_range.ensures refl
