use Rattle.std.proofs.Common.{◌∙◌, arith, rules}
use Rattle.cat_tree.proofs.Equal.{defined_told, bounds_told, shown_told, clause_told}
use Rattle.cat_tree.specs.Tree.{clause_of}
use Rattle.cat_tree.proofs.equality.ItemPartialEq.eq.Goals as goal

pub returns-in-Let-Let-clause-exact : goal.returns-in-Let-Let-clause-exact
returns-in-Let-Let-clause-exact c = clause_told (clause_of c.args.self.now) (clause_of c.args.other.now) c.are_same.result (grind (arith, defined_told))

pub returns-in-LetRec-LetRec-clause-exact : goal.returns-in-LetRec-LetRec-clause-exact
returns-in-LetRec-LetRec-clause-exact c = clause_told (clause_of c.args.self.now) (clause_of c.args.other.now) c.are_same-in-LetRec-LetRec.result (grind (arith, bounds_told))

pub returns-in-Check-Check-clause-exact : goal.returns-in-Check-Check-clause-exact
returns-in-Check-Check-clause-exact c = clause_told (clause_of c.args.self.now) (clause_of c.args.other.now) c.eq.result (search rules)

pub returns-in-Show-Show-clause-exact : goal.returns-in-Show-Show-clause-exact
returns-in-Show-Show-clause-exact c = clause_told (clause_of c.args.self.now) (clause_of c.args.other.now) c.are_same-in-Show-Show.result (grind (arith, shown_told))

pub returns-in-Unshow-Unshow-clause-exact : goal.returns-in-Unshow-Unshow-clause-exact
returns-in-Unshow-Unshow-clause-exact c = clause_told (clause_of c.args.self.now) (clause_of c.args.other.now) c.are_same-in-Unshow-Unshow.result (search rules)

pub returns-in-Let-Let-clause-value : goal.returns-in-Let-Let-clause-value
returns-in-Let-Let-clause-value c =
    let told = rw (c.deref.ensures.value, c.deref-in-Let-Let.ensures.value) at c.are_same.ensures in
    rw (c.in-Let-Let.is-0, c.in-Let-Let.is-1) (told ∙ defined_told c.in-Let-Let.a.items c.in-Let-Let.b.items)

pub returns-in-LetRec-LetRec-clause-value : goal.returns-in-LetRec-LetRec-clause-value
returns-in-LetRec-LetRec-clause-value c =
    let told = rw (c.deref-in-LetRec-LetRec.ensures.value, c.deref-in-LetRec-LetRec-2.ensures.value) at c.are_same-in-LetRec-LetRec.ensures in
    rw (c.in-LetRec-LetRec.is-0, c.in-LetRec-LetRec.is-1) (told ∙ bounds_told c.in-LetRec-LetRec.a.items c.in-LetRec-LetRec.b.items)

pub returns-in-Show-Show-clause-value : goal.returns-in-Show-Show-clause-value
returns-in-Show-Show-clause-value c =
    let told = rw (c.deref-in-Show-Show.ensures.value, c.deref-in-Show-Show-2.ensures.value) at c.are_same-in-Show-Show.ensures in
    rw (c.in-Show-Show.is-0, c.in-Show-Show.is-1) (told ∙ shown_told c.in-Show-Show.a.items c.in-Show-Show.b.items)

pub returns-in-Include-Include-clause-exact : goal.returns-in-Include-Include-clause-exact
returns-in-Include-Include-clause-exact c =
    clause_told (clause_of c.args.self.now) (clause_of c.args.other.now) c.eq-in-Include-Include.result (rw (c.in-Include-Include.is-0, c.in-Include-Include.is-1) c.eq-in-Include-Include.ensures)
