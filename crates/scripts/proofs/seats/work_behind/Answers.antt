use Rattle.std.proofs.Common.{◌++◌, ap, rules}
use Rattle.scripts.specs.Passes.{session_receipts}
use Rattle.scripts.proofs.Seated.{worked, worker_shares}
use Rattle.scripts.proofs.seats.work_behind.Goals as goal

pub work_until_idle-report-requires-clause-shares : goal.work_until_idle-report-requires-clause-shares
work_until_idle-report-requires-clause-shares g c κs within = worker_shares c.args.desk.now c.args.passes.now c.split_at_mut-workers.result.1.now c.requires c.split_at_mut-workers.ensures.back

pub returns-clause-table : goal.returns-clause-table
returns-clause-table g c =
    (worked c.args.desk.now (session_receipts c.args.passes.now) c.args.passes.now _ c.split_at_mut-workers.result.1.now c.work_until_idle-report.new.passes _ c.sums.result c.requires
    c.split_at_mut-workers.ensures.back (ap (λ l. l ++ c.work_until_idle-report.new.passes) c.split_at_mut-workers.ensures.front) c.work_until_idle-report.ensures.each c.work_until_idle-report.ensures.report (search rules)).table

pub returns-clause-worked : goal.returns-clause-worked
returns-clause-worked g c =
    (worked c.args.desk.now (session_receipts c.args.passes.now) c.args.passes.now _ c.split_at_mut-workers.result.1.now c.work_until_idle-report.new.passes _ c.sums.result c.requires
    c.split_at_mut-workers.ensures.back (ap (λ l. l ++ c.work_until_idle-report.new.passes) c.split_at_mut-workers.ensures.front) c.work_until_idle-report.ensures.each c.work_until_idle-report.ensures.report (search rules)).answered
