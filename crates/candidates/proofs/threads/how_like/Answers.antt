use Rattle.candidates.proofs.Outlining.{like_written}
use Rattle.candidates.proofs.threads.how_like.Goals as goal

pub returns-then-are_calm-clause-alike : goal.returns-then-are_calm-clause-alike
returns-then-are_calm-clause-alike c = λ h. like_written c.args.events.now c.args.others.now (c.are_calm.ensures c.if-are_calm.true)
