use Rattle.std.proofs.Common.{arith}
use Rattle.program.specs.Inputs.{Summarizes, SummarizesPartly}
use Rattle.program.proofs.Inputs.{text_is, of_text, read_refusal}
use Rattle.program.proofs.summary.one.Goals as goal

pub returns-in_err-verdict-clause-refusal : goal.returns-in_err-verdict-clause-refusal
returns-in_err-verdict-clause-refusal g c =
    let read = c.in_ok-text.ensures in
    let len = c.in_ok-text.text.ok.0 in
    let text = text_is _ _ c.in_ok-text.text.items read.taken (omega (arith, read.at_most, len)) (λ h. read.end (omega (arith, h, len))) in
    let refusal = rw c.deref.ensures.value at c.in_err-verdict.ensures.refusal in
    read_refusal _ _ _ _ c.from_residual-in_err-verdict.result c.from_residual-in_err-verdict.ensures.1 text refusal

pub returns-in_err-write_summary-clause-part : goal.returns-in_err-write_summary-clause-part
returns-in_err-write_summary-clause-part g c =
    let read = c.in_ok-text.ensures in
    let len = c.in_ok-text.text.ok.0 in
    let text = text_is _ _ c.in_ok-text.text.items read.taken (omega (arith, read.at_most, len)) (λ h. read.end (omega (arith, h, len))) in
    let found = rw c.deref.ensures.value at c.in_ok-verdict.ensures.found in
    λ fault. of_text _ c.in_ok-text.text.items (λ bytes. SummarizesPartly bytes c.args.cat.now (g.W.Sink.held c.args.writer.now) (g.W.Sink.held c.write_summary.new.writer)) text (c.in_ok-verdict.verdict.finding, found, c.in_err-write_summary.ensures.part)

pub returns-clause-summary : goal.returns-clause-summary
returns-clause-summary g c =
    let read = c.in_ok-text.ensures in
    let len = c.in_ok-text.text.ok.0 in
    let text = text_is _ _ c.in_ok-text.text.items read.taken (omega (arith, read.at_most, len)) (λ h. read.end (omega (arith, h, len))) in
    let found = rw c.deref.ensures.value at c.in_ok-verdict.ensures.found in
    of_text _ c.in_ok-text.text.items (λ bytes. Summarizes bytes c.args.cat.now (g.W.Sink.held c.args.writer.now) (g.W.Sink.held c.write_summary.new.writer)) text (c.in_ok-verdict.verdict.finding, found, c.in_ok-write_summary.ensures.written)
