use Rattle.std.proofs.Common.{[], refl, codes, ◌++◌}
use Rattle.std.proofs.KnownBytes.{Appends-nil, Appends-trans}
use Rattle.report.proofs.Written.{exit, after}
use Rattle.program.specs.Refusals.{cause_text}
use Rattle.program.proofs.refusal.write_refusal.Goals as goal

pub returns-in_err-write_bytes : goal.returns-in_err-write_bytes
returns-in_err-write_bytes g c =
    exit _ _ _ _ c.from_residual.result [] (codes "refused ") (cause_text c.args.fault.now ++ codes "\n") _ c.from_residual.ensures.0 (Appends-nil _) c.in_err-write_bytes.ensures refl

pub returns-in_err-write_cause : goal.returns-in_err-write_cause
returns-in_err-write_cause g c =
    exit _ _ _ _ c.from_residual-in_err-write_cause.result (codes "refused ") (cause_text c.args.fault.now) (codes "\n") _ c.from_residual-in_err-write_cause.ensures.0 c.in_ok-write_bytes.ensures c.in_err-write_cause.ensures refl

pub returns : goal.returns
returns g c =
    after _ _ _ _ _ (codes "refused " ++ cause_text c.args.fault.now) (codes "\n") _ (Appends-trans _ _ _ _ _ c.in_ok-write_bytes.ensures c.in_ok-write_cause.ensures) c.write_bytes-2.ensures refl
