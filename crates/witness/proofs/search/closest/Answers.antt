use Rattle.std.proofs.Common.{[], subst}
use Rattle.std.specs.Prelude.{IfOk}
use Rattle.litmus_tree.specs.Tree.{Litmus}
use Rattle.slices.specs.Questions.{IsAnswer}
use Rattle.witness.specs.Witnesses.{IsFound, IsWitness}
use Rattle.witness.proofs.Searched.{found_any, if_ok}
use Rattle.witness.proofs.search.closest.Goals as goal

pub returns : goal.returns
returns c =
    let t = c.args.work.now.test in
    let P : Litmus → Type 0 = λ u. IfOk c.find.result (IsFound u (IsWitness u [] c.args.has)) in
    if_ok (IsFound t (IsWitness t [] c.args.has)) (IsFound t (λ x. IsAnswer t x c.args.has)) c.find.result (found_any t c.args.has) (subst P c.test.ensures c.find.ensures)
