use Rattle.scripts.specs.Serving.{bad_line_text, of_bad_line}
use Rattle.scripts.proofs.Served.{closes_partly, tells_part}
use Rattle.scripts.proofs.run.tell.Goals as goal

pub returns-in_err-write_bad_line-in-BadLine-clause-reported : goal.returns-in_err-write_bad_line-in-BadLine-clause-reported
returns-in_err-write_bad_line-in-BadLine-clause-reported g c workers calls =
    let line = c.in-BadLine.line in
    let fault = c.from_residual in
    (bad_line_text line, closes_partly workers calls fault.result _ fault.ensures.1 (of_bad_line line), tells_part _ _ fault.result _ fault.ensures.1 c.in_err-write_bad_line-in-BadLine.ensures.0)
