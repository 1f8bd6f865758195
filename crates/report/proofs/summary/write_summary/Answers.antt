use Rattle.std.proofs.Common.{subst}
use Rattle.std.specs.Io.KnownBytes.{Appends}
use Rattle.wb_text.specs.Memory.{AppendsPrefix}
use Rattle.slices.specs.Findings.{FindingValue}
use Rattle.report.specs.Texts.{Text}
use Rattle.report.proofs.Written.{done_is, part_is}
use Rattle.report.proofs.summary.write_summary.Goals as goal

pub returns-in-Ok-clause-written : goal.returns-in-Ok-clause-written
returns-in-Ok-clause-written g c =
    let P : FindingValue → Type 0 = λ v. Appends (g.W.Sink.held c.args.writer.now) (g.W.Sink.held c.write_lines.new.writer) (Text v) in
    subst P c.finding.ensures.finding (done_is _ _ _ _ _ _ c.in-Ok.is c.write_lines.ensures)

pub returns-in-Err-clause-part : goal.returns-in-Err-clause-part
returns-in-Err-clause-part g c =
    let P : FindingValue → Type 0 = λ v. AppendsPrefix (g.W.Sink.held c.args.writer.now) (g.W.Sink.held c.write_lines.new.writer) (Text v) in
    subst P c.finding.ensures.finding (part_is _ _ _ _ _ _ c.in-Err.is c.write_lines.ensures)
