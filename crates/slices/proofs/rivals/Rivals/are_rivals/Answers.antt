use Rattle.std.proofs.Common.{List, subst}
use Rattle.std.proofs.lemmas.Result.{IfOk-weaker}
use Rattle.cat_tree.specs.Tree.{Clause}
use Rattle.events.specs.Structures.{structure_of}
use Rattle.slices.specs.Reasons.{ComesLate}
use Rattle.slices.proofs.Refuting.{rivals_by, rivals_named, three_named}
use Rattle.slices.proofs.rivals.Rivals.are_rivals.Goals as goal

pub comes_late-requires-clause-named : goal.comes_late-requires-clause-named
comes_late-requires-clause-named c =
    let r = c.args.self in
    let named = rivals_named c.args.graph.now r c.runs.ensures.graph c.requires.so.2 in
    three_named c.args.graph.now r.source r.second.write r.first.write named.0 named.2 named.1

pub comes_late-requires-2-clause-named : goal.comes_late-requires-2-clause-named
comes_late-requires-2-clause-named c =
    let r = c.args.self in
    let named = rivals_named c.args.graph.now r c.runs.ensures.graph c.requires.so.2 in
    three_named c.args.graph.now r.source r.first.write r.second.write named.0 named.1 named.2

pub returns-clause-rivals : goal.returns-clause-rivals
returns-clause-rivals c =
    let r = c.args.self in
    let items = c.args.evaluator.now.items in
    let s = structure_of c.args.graph.now in
    let P : List Clause → Type 0 = λ z. ComesLate z s r.second r.source r.first.write in
    IfOk-weaker c.comes_late-2.result _ _
    (λ known late t. rivals_by items s r (c.are_apart.ensures c.if-not-are_apart.false) (c.in_ok-comes_late.ensures.late c.if-not-branch.false) (subst P c.comes_late.ensures.model (late t))) c.comes_late-2.ensures.late
