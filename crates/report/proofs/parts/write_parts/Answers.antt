use Rattle.std.proofs.Common.{[]}
use Rattle.report.proofs.Written.{exit, flat_map-at}
use Rattle.report.proofs.parts.write_parts.Goals as goal

pub returns-in_err-write_bytes : goal.returns-in_err-write_bytes
returns-in_err-write_bytes g c =
    exit _ _ _ _ c.from_residual.result _ _ _ _ c.from_residual.ensures.0 c.loop-part.invariant c.in_err-write_bytes.ensures
    (flat_map-at (λ p. p.now) c.args.parts.now c.loop-part.part-index (record { ref_ptr = (0, 0); now = [] }) c.loop-part-test.true)
