use Rattle.std.proofs.Common.{arith}
use Rattle.std.proofs.lemmas.Grind.{common_steps}
use Rattle.sessions.proofs.desks.Desk.call.Goals as goal

pub returns-clause-receipt : goal.returns-clause-receipt
returns-clause-receipt c = grind (arith, common_steps)
