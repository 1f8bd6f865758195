use Rattle.std.proofs.Common.{arith, rules}
use Rattle.candidates.proofs.Placed.{placed_none}
use Rattle.candidates.proofs.walk.find.Goals as goal

pub assemble_at-requires : goal.assemble_at-requires
assemble_at-requires c = record { found = rw c.in-Found.is at c.in_ok-hit.ensures.found }

pub look-requires-clause-ahead : goal.look-requires-clause-ahead
look-requires-clause-ahead c = record { stretch = record { whole = λ some. absurd (omega (arith, some, c.nothing_ahead-ahead.ensures.size)); placed = placed_none c.args.space.now.threads _ _ c.nothing_ahead-ahead.ensures.places }; levels = search rules }
