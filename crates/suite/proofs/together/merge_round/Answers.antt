use Rattle.std.proofs.Common.{◌≡◌, ◌∙◌, arith}
use Rattle.suite.proofs.EachSlice.{counted, found_is}
use Rattle.suite.proofs.together.merge_round.Goals as goal

pub merge_slice-requires-clause-part : goal.merge_slice-requires-clause-part
merge_slice-requires-clause-part c =
    found_is _ _ c.args.round c.loop-slice.slice c.from.result c.from-in-Ok.result c.args.found.now c.index-found-from.result c.in-Ok.turns c.index.result.now _ c.requires.round.some c.loop-slice.auto.slice c.loop-slice-test.true
    c.from.ensures c.from-in-Ok.ensures c.requires.all c.requires.found c.index-found-from.is c.in-Ok.is c.index.ensures c.in_ok-part-in-Ok.ensures c.loop-slice.invariant.work

pub returns-clause-merged : goal.returns-clause-merged
returns-clause-merged c =
    let all : c.loop-slice.slice ≡ c.args.round.to = omega (arith, c.loop-slice-test.false, c.loop-slice.auto.slice-end, c.requires.round.order) in
    counted _ _ _ _ all c.loop-slice.invariant.before

pub loop-slice-preserved : goal.loop-slice-preserved
loop-slice-preserved c = record {
  before = c.in_ok-merge_slice-in-Ok.ensures.merged;
  work = c.in_ok-merge_slice-in-Ok.ensures.work ∙ c.loop-slice.invariant.work;
}
