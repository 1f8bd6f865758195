use Rattle.std.proofs.Common.{◌≡◌}
use Rattle.litmus_c.specs.Labels.{test_label}
use Rattle.report.proofs.refusal.write_test_fault.Goals as goal

pub returns-in-Unsupported : goal.returns-in-Unsupported
returns-in-Unsupported g c =
    let label : c.as_bytes-label.result.now ≡ test_label c.args.fault.now = cc in
    let word : c.bytes.result.now ≡ c.in-Unsupported.word = cc in
    rw c.in-Unsupported.is (rw (label, word, c.in-Unsupported.is) at c.write_field-in-Unsupported.ensures)
