use Rattle.std.proofs.Common.{◌∙◌}
use Rattle.cat_places.proofs.Walking.{some_built_in}
use Rattle.cat_places.proofs.walk.Walk.is_built_in.Goals as goal

pub returns : goal.returns
returns c = c.is_some.ensures ∙ some_built_in (λ f. f.now) c.get.result c.args.name.now c.args.self.now.built_in.now c.requires c.get.ensures
