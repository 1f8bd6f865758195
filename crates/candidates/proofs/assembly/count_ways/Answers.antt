use Rattle.std.proofs.Common.{◌≡◌, ◌*◌, ◌+◌, drop, refl, length, arith}
use Rattle.listings.specs.Lists.{product_by}
use Rattle.candidates.specs.Readings.{sources_among}
use Rattle.candidates.proofs.Caps.{taken_factor, factor_le, product_positive, some_source}
use Rattle.candidates.proofs.Listed.{sources_there}
use Rattle.candidates.proofs.assembly.count_ways.Goals as goal

pub overflow_mul-product : goal.overflow_mul-product
overflow_mul-product c =
    let f = sources_among c.args.writes.now in
    let rs = c.args.reads.now in
    let i = c.loop-read.read-index in
    let n = length c.list.result.now + 1 in
    let q = c.loop-read.product * n in
    let is = sources_there c.args.writes.now rs i c.read-item.result c.index-writes-read.result c.list.result.now c.requires.within c.loop-read-test.true c.read-item.is c.index-writes-read.is c.list.ensures in
    let e : q * product_by f (drop (i + 1) rs) ≡ product_by f rs = taken_factor f rs i c.read-item.result c.loop-read.product n q is c.loop-read-test.true c.loop-read.invariant refl in
    omega (arith, e, factor_le q (product_by f (drop (i + 1) rs)) (product_positive f (some_source c.args.writes.now) (drop (i + 1) rs)), c.requires.most)

pub loop-read-preserved : goal.loop-read-preserved
loop-read-preserved c =
    let rs = c.args.reads.now in
    let i = c.loop-read.read-index in
    let n = length c.list.result.now + 1 in
    let is = sources_there c.args.writes.now rs i c.read-item.result c.index-writes-read.result c.list.result.now c.requires.within c.loop-read-test.true c.read-item.is c.index-writes-read.is c.list.ensures in
    taken_factor (sources_among c.args.writes.now) rs i c.read-item.result c.loop-read.product n _ is c.loop-read-test.true c.loop-read.invariant refl
