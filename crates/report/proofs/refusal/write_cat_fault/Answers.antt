use Rattle.std.proofs.Common.{◌≡◌}
use Rattle.cat_syntax.specs.Labels.{cat_label}
use Rattle.report.proofs.refusal.write_cat_fault.Goals as goal

pub returns-in-Unsupported : goal.returns-in-Unsupported
returns-in-Unsupported g c =
    let label : c.as_bytes-label.result.now ≡ cat_label c.args.fault.now = cc in
    let word : c.bytes.result.now ≡ c.in-Unsupported.word = cc in
    rw c.in-Unsupported.is (rw (label, word, c.in-Unsupported.is) at c.write_field-in-Unsupported.ensures)
