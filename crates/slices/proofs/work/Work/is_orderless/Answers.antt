use Rattle.std.proofs.Common.{subst}
use Rattle.std.specs.Prelude.{IsTrue}
use Rattle.cat_eval.specs.Orderless.{IsOrderless}
use Rattle.slices.specs.Works.{WorkValue}
use Rattle.slices.proofs.work.Work.is_orderless.Goals as goal

pub returns : goal.returns
returns c = let P : WorkValue → Type 0 = λ w. IsTrue c.self.inside.orderless → IsOrderless w.model.items in subst P c.self.view_is c.self.invariant.orderless
