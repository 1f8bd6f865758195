use Rattle.std.proofs.KnownBytes.{Appends-nil}
use Rattle.report.specs.Listings.{job_text}
use Rattle.report.proofs.Written.{exit, flat_map-item, item_on, items_done}
use Rattle.report.proofs.listing.write_jobs.Goals as goal

pub returns-in_err-write_job : goal.returns-in_err-write_job
returns-in_err-write_job g c =
    exit _ _ _ _ c.from_residual.result _ _ _ _ c.from_residual.ensures.0 c.loop-job.invariant c.in_err-write_job.ensures
    (flat_map-item job_text c.args.jobs.now c.loop-job.job-index c.job-item.result c.loop-job-test.true c.job-item.is)

pub loop-job-init : goal.loop-job-init
loop-job-init g c = Appends-nil _

pub loop-job-preserved : goal.loop-job-preserved
loop-job-preserved g c = item_on job_text _ _ _ c.args.jobs.now c.loop-job.job-index c.job-item.result c.loop-job-test.true c.job-item.is c.loop-job.invariant c.in_ok-write_job.ensures

pub returns : goal.returns
returns g c = items_done job_text _ _ c.args.jobs.now c.loop-job.job-index c.loop-job-test.false c.loop-job.invariant
