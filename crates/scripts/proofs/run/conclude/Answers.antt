use Rattle.std.proofs.Common.{◌-◌, refl}
use Rattle.scripts.specs.Serving.{cause_text, finish_text, of_cause, of_finish}
use Rattle.scripts.proofs.Calls.{done, unfinished}
use Rattle.scripts.proofs.Served.{closes_partly, tells_part}
use Rattle.scripts.proofs.run.conclude.Goals as goal

pub returns-in_err-write_finish-in-Ok-clause-reported : goal.returns-in_err-write_finish-in-Ok-clause-reported
returns-in_err-write_finish-in-Ok-clause-reported g c calls answered have =
    let fault = c.from_residual in (
      finish_text c.in-Ok.entries,
      closes_partly (c.args.seats.desk - 8) calls fault.result _ fault.ensures.1 (of_finish c.in-Ok.entries),
      tells_part _ _ fault.result _ fault.ensures.1 c.in_err-write_finish-in-Ok.ensures.0,
    )

pub returns-in_err-write_cause-in-Err-clause-reported : goal.returns-in_err-write_cause-in-Err-clause-reported
returns-in_err-write_cause-in-Err-clause-reported g c calls answered have =
    let fault = c.from_residual-in_err-write_cause-in-Err in (
      cause_text c.in-Err.cause,
      closes_partly (c.args.seats.desk - 8) calls fault.result _ fault.ensures.1 (of_cause c.in-Err.cause),
      tells_part _ _ fault.result _ fault.ensures.1 c.in_err-write_cause-in-Err.ensures.0,
    )

pub returns-in_ok-write_finish-in-Ok-clause-reported : goal.returns-in_ok-write_finish-in-Ok-clause-reported
returns-in_ok-write_finish-in-Ok-clause-reported g c calls answered have =
    let end = c.in-Ok.ensures.done in
    (finish_text c.in-Ok.entries, done c.args.seats.desk c.in-Ok.entries calls c.args.seats.passes.items end.0 c.requires have end.1 end.2 end.3, c.in_ok-write_finish-in-Ok.ensures)

pub returns-in_ok-write_cause-in-Err-clause-reported : goal.returns-in_ok-write_cause-in-Err-clause-reported
returns-in_ok-write_cause-in-Err-clause-reported g c calls answered have =
    let end = c.in-Err.ensures.fault in
    (cause_text c.in-Err.cause, (unfinished c.args.seats.desk calls c.args.seats.passes.items end.0 c.in-Err.cause c.requires have end.1 end.2, refl), c.in_ok-write_cause-in-Err.ensures)
