use Rattle.events.specs.Named.{event_count}
use Rattle.cat_eval.specs.Judging.{First}
use Rattle.cat_eval.specs.Laws.{BehindAll}
use Rattle.cat_eval.proofs.Single.{means_one, behind_all_one, first_one}
use Rattle.cat_eval.proofs.laws.one_value.Goals as goal

pub returns : goal.returns
returns c = λ g items ess a v w h k. means_one (event_count g) (BehindAll (event_count g) (First g) items ess) (behind_all_one (event_count g) (First g) items ess (first_one g)) a v w h k
