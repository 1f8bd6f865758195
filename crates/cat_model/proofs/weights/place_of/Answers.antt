use Rattle.std.proofs.Common.{sym, ◌∙◌}
use Rattle.cat_model.proofs.Counting.{place_found, place_passed}
use Rattle.cat_model.proofs.weights.place_of.Goals as goal

pub returns-then-eq : goal.returns-then-eq
returns-then-eq c = place_found c.loop-last.rest.now c.in-Some.before.now c.in-Some.last.now c.args.name.now _ c.in-Some.ensures.cases.0 (sym c.eq.ensures.value ∙ c.if-eq.true) c.loop-last.invariant

pub loop-last-preserved : goal.loop-last-preserved
loop-last-preserved c = place_passed c.loop-last.rest.now c.in-Some.before.now c.in-Some.last.now c.args.name.now _ c.in-Some.ensures.cases.0 (sym c.eq.ensures.value ∙ c.if-eq.false) c.loop-last.invariant
