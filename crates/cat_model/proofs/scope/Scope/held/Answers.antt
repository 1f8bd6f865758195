use Rattle.std.proofs.Common.{Some, None}
use Rattle.cat_model.proofs.Latest.{held_latest}
use Rattle.cat_model.proofs.scope.Scope.held.Goals as goal

pub returns-in-Some : goal.returns-in-Some
returns-in-Some c = held_latest c.args.self.now.names.items c.deref.result.now c.args.name.now (Some c.in-Some.bound) c.deref.ensures.value c.in-Some.ensures

pub returns-in-None : goal.returns-in-None
returns-in-None c = held_latest c.args.self.now.names.items c.deref.result.now c.args.name.now None c.deref.ensures.value c.in-None.ensures
