use Rattle.std.proofs.Common.{◌≡◌, ◌+◌, map, take, subst, arith, rules}
use Rattle.cat_model.specs.Faults.{IsCause}
use Rattle.cat_tree.specs.Tree.{clause_of}
use Rattle.cat_places.specs.Blame.{items_put, alone, main}
use Rattle.cat_places.proofs.Blaming.{broken_more}
use Rattle.cat_places.proofs.blame.first_broken.Goals as goal

pub loop-number-preserved : goal.loop-number-preserved
loop-number-preserved c =
    let put : items_put c.args.files.now (take (c.loop-number.number + 1) c.args.visits.now) ≡ map clause_of c.in_ok-items.items.items = search rules in
    broken_more c.args.files.now c.args.visits.now c.loop-number.number c.loop-number.invariant (λ e h. c.in_ok-is_model.ensures.yes c.if-not-branch.false e (subst (λ is. IsCause e (alone is) main) put h))

pub returns : goal.returns
returns c = λ j low. c.loop-number.invariant j (omega (arith, low, c.loop-number-test.false))
