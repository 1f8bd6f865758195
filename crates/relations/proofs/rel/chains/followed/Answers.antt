use Rattle.relations.proofs.Reached.{followed_own, followed_beyond}
use Rattle.relations.proofs.rel.chains.followed.Goals as goal

pub returns-then-m-i : goal.returns-then-m-i
returns-then-m-i c = followed_beyond c.args.m c.args.i c.args.beyond c.requires c.if-m-i.true

pub returns-else-m-i : goal.returns-else-m-i
returns-else-m-i c = followed_own c.args.m c.args.i c.args.beyond c.requires
