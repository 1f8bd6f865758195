use Rattle.std.proofs.Common.{◌≡◌}
use Rattle.candidates.specs.Labels.{space_label}
use Rattle.report.proofs.refusal.write_space_fault.Goals as goal

pub returns-in-TooManyRuns : goal.returns-in-TooManyRuns
returns-in-TooManyRuns g c =
    let label : c.as_bytes-label.result.now ≡ space_label c.args.fault = cc in
    rw c.in-TooManyRuns.is (rw (label, c.in-TooManyRuns.is) at c.write_numbered.ensures)
