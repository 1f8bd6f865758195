use Rattle.report.specs.Texts.{flag_line}
use Rattle.report.proofs.Written.{exit, flat_map-item}
use Rattle.report.proofs.summary.write_flags.Goals as goal

pub returns-in_err-write_flag : goal.returns-in_err-write_flag
returns-in_err-write_flag g c =
    exit _ _ _ _ c.from_residual.result _ _ _ _ c.from_residual.ensures.0 c.loop-flag.invariant c.in_err-write_flag.ensures
    (flat_map-item flag_line c.args.flags.now c.loop-flag.flag-index c.flag-item.result c.loop-flag-test.true c.flag-item.is)
