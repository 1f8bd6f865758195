use Rattle.std.proofs.Common.{[], refl, codes}
use Rattle.std.proofs.KnownBytes.{Appends-nil}
use Rattle.report.proofs.Written.{exit, after}
use Rattle.report.specs.Refusals.{model_fault_text}
use Rattle.report.proofs.refusal.write_model.Goals as goal

pub returns-in_err-write_bytes : goal.returns-in_err-write_bytes
returns-in_err-write_bytes g c =
    exit _ _ _ _ c.from_residual.result [] (codes "74 Model ") (model_fault_text c.args.fault.now) _ c.from_residual.ensures.0 (Appends-nil _) c.in_err-write_bytes.ensures refl

pub returns : goal.returns
returns g c =
    after _ _ _ _ _ (codes "74 Model ") (model_fault_text c.args.fault.now) _ c.in_ok-write_bytes.ensures c.write_model_fault.ensures refl
