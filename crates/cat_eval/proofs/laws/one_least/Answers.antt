use Rattle.events.specs.Named.{event_count}
use Rattle.cat_eval.specs.Judging.{First}
use Rattle.cat_eval.specs.Laws.{BehindAll}
use Rattle.cat_eval.proofs.Single.{least_one}
use Rattle.cat_eval.proofs.laws.one_least.Goals as goal

pub returns : goal.returns
returns c = λ g items ess bs es fs h k. least_one (event_count g) (BehindAll (event_count g) (First g) items ess) bs es fs h k
