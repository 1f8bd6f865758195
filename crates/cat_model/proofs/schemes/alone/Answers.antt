use Rattle.std.proofs.Common.{rules}
use Rattle.cat_model.proofs.Ending.{alone_not}
use Rattle.cat_model.proofs.schemes.alone.Goals as goal

pub returns-then-not-is_empty : goal.returns-then-not-is_empty
returns-then-not-is_empty c = alone_not c.args.scheme.now (λ e. search rules)
