use Rattle.cat_model.proofs.Equal.{one_model, same_keys}
use Rattle.cat_model.proofs.model.ModelPartialEq.eq.Goals as goal

pub returns-clause-value : goal.returns-clause-value
returns-clause-value c = same_keys c.args.self.now c.args.other.now _ _ c.eq.result c.key.ensures c.key-2.ensures c.eq.ensures.exact

pub returns-clause-exact : goal.returns-clause-exact
returns-clause-exact c = one_model c.args.self.now c.args.other.now _ _ c.eq.result c.key.ensures c.key-2.ensures c.eq.ensures.exact
