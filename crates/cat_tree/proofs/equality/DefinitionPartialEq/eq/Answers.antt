use Rattle.std.proofs.Common.{rules}
use Rattle.cat_tree.proofs.Equal.{definition_told}
use Rattle.cat_tree.specs.Tree.{defined_of}
use Rattle.cat_tree.proofs.equality.DefinitionPartialEq.eq.Goals as goal

pub returns-then-are_same-clause-exact : goal.returns-then-are_same-clause-exact
returns-then-are_same-clause-exact c = definition_told (defined_of c.args.self.now) (defined_of c.args.other.now) c.eq-then-are_same.result (search rules)

pub returns-else-are_same-clause-exact : goal.returns-else-are_same-clause-exact
returns-else-are_same-clause-exact c = definition_told (defined_of c.args.self.now) (defined_of c.args.other.now) c.if-eq.value (search rules)
