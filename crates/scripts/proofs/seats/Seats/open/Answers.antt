use Rattle.std.proofs.Common.{rules}
use Rattle.scripts.proofs.Seated.{opened, opened_fresh}
use Rattle.scripts.proofs.seats.Seats.open.Goals as goal

pub returns-clause-table : goal.returns-clause-table
returns-clause-table g c = opened _ c.args.n _ (search rules) (search rules) (search rules) (search rules) (search rules)

pub returns-clause-fresh : goal.returns-clause-fresh
returns-clause-fresh g c = opened_fresh c.args.n _ (search rules)
