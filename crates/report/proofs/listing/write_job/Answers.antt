use Rattle.std.proofs.Common.{[], refl}
use Rattle.std.proofs.KnownBytes.{Appends-nil}
use Rattle.report.proofs.Written.{exit, after}
use Rattle.report.specs.Listings.{asked_text, counts_text}
use Rattle.report.proofs.listing.write_job.Goals as goal

pub returns-in_err-write_asked : goal.returns-in_err-write_asked
returns-in_err-write_asked g c =
    exit _ _ _ _ c.from_residual.result [] (asked_text c.args.job.now) (counts_text c.args.job.now) _ c.from_residual.ensures.0 (Appends-nil _) c.in_err-write_asked.ensures refl

pub returns : goal.returns
returns g c =
    after _ _ _ _ _ (asked_text c.args.job.now) (counts_text c.args.job.now) _ c.in_ok-write_asked.ensures c.write_counts.ensures refl
