use Rattle.std.proofs.Common.{◌-◌, ap, rules}
use Rattle.scripts.specs.Passes.{ending}
use Rattle.scripts.proofs.Served.{end_follows, end_told, failed_told, fault_follows, fault_told}
use Rattle.scripts.proofs.run.end.Goals as goal

pub returns-in-Ok-Ok-clause-reported : goal.returns-in-Ok-Ok-clause-reported
returns-in-Ok-Ok-clause-reported g c calls answered have = end_told _ calls _ _ c.args.outcome c.conclude.result (search rules) (c.conclude.ensures.reported calls answered have)

pub returns-in-Ok-Ok-clause-follows : goal.returns-in-Ok-Ok-clause-follows
returns-in-Ok-Ok-clause-follows g c = end_follows c.args.outcome c.conclude.result (search rules) c.conclude.ensures.fault

pub returns-in-Ok-Err-clause-reported : goal.returns-in-Ok-Err-clause-reported
returns-in-Ok-Err-clause-reported g c calls answered have =
    fault_told _ calls _ _ c.args.outcome c.in-Ok-Err.fault c.tell.result (search rules) (c.tell.ensures.reported (c.args.seats.desk - 8) calls)

pub returns-in-Ok-Err-clause-follows : goal.returns-in-Ok-Err-clause-follows
returns-in-Ok-Err-clause-follows g c = fault_follows c.args.outcome c.in-Ok-Err.fault c.tell.result (search rules) c.tell.ensures.err c.tell.ensures.fault

pub returns-in-Err-clause-reported : goal.returns-in-Err-clause-reported
returns-in-Err-clause-reported g c calls answered have = failed_told (c.args.seats.desk - 8) calls (g.W.Sink.held c.args.writer.now) c.args.outcome (ap ending c.in-Err.is)
