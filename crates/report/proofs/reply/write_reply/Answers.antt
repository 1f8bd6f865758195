use Rattle.report.proofs.reply.write_reply.Goals as goal

pub returns-in-Verdict : goal.returns-in-Verdict
returns-in-Verdict g c = rw c.in-Verdict.is (rw c.verdict.ensures at c.write_verdict.ensures)

pub returns-in-Pending : goal.returns-in-Pending
returns-in-Pending g c = rw c.in-Pending.is c.write_counts.ensures
