use Rattle.cat_tree.specs.Tree.{bound_of}
use Rattle.cat_tree.proofs.Equal.{binding_told}
use Rattle.cat_tree.proofs.equality.BindingPartialEq.eq.Goals as goal

pub returns-then-eq-clause-exact : goal.returns-then-eq-clause-exact
returns-then-eq-clause-exact c = binding_told (bound_of c.args.self.now) (bound_of c.args.other.now) c.eq-then-eq.result (rw (← c.if-eq.ensures.value) c.eq-then-eq.ensures.value)

pub returns-else-eq-clause-exact : goal.returns-else-eq-clause-exact
returns-else-eq-clause-exact c = binding_told (bound_of c.args.self.now) (bound_of c.args.other.now) c.eq.result (rw (← c.if-eq.ensures.value) c.if-eq.false)
