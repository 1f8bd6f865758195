use Rattle.std.proofs.Common.{◌∙◌, arith}
use Rattle.cat_tree.proofs.Equal.{clauses_told, file_told}
use Rattle.cat_tree.proofs.file.CatFilePartialEq.eq.Goals as goal

pub returns-then-eq-clause-exact : goal.returns-then-eq-clause-exact
returns-then-eq-clause-exact c = file_told c.args.self.now c.args.other.now c.are_same.result (grind (arith, clauses_told))

pub returns-then-eq-clause-value : goal.returns-then-eq-clause-value
returns-then-eq-clause-value c =
    let told = rw (c.deref.ensures.value, c.deref-then-eq.ensures.value) at c.are_same.ensures in
    rw (← c.self.view_is, ← c.other.view_is, ← c.if-eq.ensures) (told ∙ clauses_told c.self.inside.items.items c.other.inside.items.items)

pub returns-else-eq-clause-exact : goal.returns-else-eq-clause-exact
returns-else-eq-clause-exact c = file_told c.args.self.now c.args.other.now c.eq.result (rw (← c.self.view_is, ← c.other.view_is, ← c.if-eq.ensures) c.if-eq.false)
