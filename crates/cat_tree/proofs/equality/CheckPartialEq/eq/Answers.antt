use Rattle.std.proofs.Common.{rules}
use Rattle.cat_tree.specs.Tree.{check_of}
use Rattle.cat_tree.proofs.Equal.{clause_told}
use Rattle.cat_tree.proofs.equality.CheckPartialEq.eq.Goals as goal

pub returns-then-eq-2-clause-exact : goal.returns-then-eq-2-clause-exact
returns-then-eq-2-clause-exact c = clause_told (check_of c.args.self.now) (check_of c.args.other.now) c.eq-then-eq-2.result (search rules)

pub returns-else-eq-2-clause-exact : goal.returns-else-eq-2-clause-exact
returns-else-eq-2-clause-exact c = clause_told (check_of c.args.self.now) (check_of c.args.other.now) c.if-eq.value (search rules)
