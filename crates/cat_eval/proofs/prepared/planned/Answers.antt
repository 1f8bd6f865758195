use Rattle.std.proofs.Common.{map, refl, arith, ◌∙◌}
use Rattle.cat_tree.specs.Tree.{clause_of}
use Rattle.cat_eval.proofs.Aside.{item_steps_more}
use Rattle.cat_eval.proofs.Following.{clauses_more}
use Rattle.std.proofs.lemmas.List.{take_all, length-map}
use Rattle.cat_eval.proofs.prepared.planned.Goals as goal

pub loop-number-preserved : goal.loop-number-preserved
loop-number-preserved c = record {
  clauses = clauses_more c.loop-number.planned.items c.push.new.self.items _ c.args.items.now (map clause_of c.args.items.now) c.loop-number.number c.index-items-number.result c.in_ok-push.ensures.items c.loop-number.invariant.clauses
      refl c.loop-number-test.true c.index-items-number.is refl;
  item_steps = item_steps_more c.loop-number.planned.items c.push.new.self.items _ c.args.item_steps.now c.loop-number.number _ c.in_ok-push.ensures.items c.loop-number.invariant.item_steps (omega (arith, c.requires, c.loop-number-test.true)) refl;
}

pub returns-clause-clauses : goal.returns-clause-clauses
returns-clause-clauses c =
    c.loop-number.invariant.clauses ∙ take_all c.loop-number.number (map clause_of c.args.items.now) (omega (arith, c.loop-number-test.false, length-map c.args.items.now clause_of))

pub returns-clause-item_steps : goal.returns-clause-item_steps
returns-clause-item_steps c = c.loop-number.invariant.item_steps ∙ take_all c.loop-number.number c.args.item_steps.now (omega (arith, c.requires, c.loop-number-test.false))
