use Rattle.std.proofs.Common.{◌∙◌, arith, length-set}
use Rattle.relations.proofs.Relations.{rows_more, rows_built_at}
use Rattle.relations.proofs.rel.Rel.fill.Goals as goal

pub loop-i-preserved : goal.loop-i-preserved
loop-i-preserved g c = (
  length-set _ _ _ ∙ c.loop-i.invariant.0,
  c.loop-i.invariant.1,
  rows_more (λ k w. (goal.F-post g) c.args.row k w) c.loop-i.self-inside.rows c.loop-i.i c.row.result (omega (arith, c.loop-i-test.true, c.requires.count, c.loop-i.invariant.0)) c.row.ensures c.loop-i.invariant.2,
)

pub returns : goal.returns
returns g c = rows_built_at _ _ _ _ c.loop-i.invariant.1 (λ k l. c.loop-i.invariant.2 k (omega (arith, l, c.loop-i-test.false)))
