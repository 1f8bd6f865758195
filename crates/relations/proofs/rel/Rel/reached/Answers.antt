use Rattle.std.proofs.Common.{◌+◌, arith}
use Rattle.relations.specs.Relation.{In}
use Rattle.relations.specs.Equality.{pair_below}
use Rattle.relations.specs.Words.{ClosedFrom}
use Rattle.relations.proofs.Words.{less_but}
use Rattle.relations.proofs.Relations.{row_exact}
use Rattle.relations.proofs.Reached.{begun, next_of, gone_on, all_found}
use Rattle.relations.proofs.rel.Rel.reached.Goals as goal

pub loop-found-init : goal.loop-found-init
loop-found-init c = begun c.args.of.now.count c.args.i c.args.all c.row-found.result (In c.args.of.now) c.requires.all c.row-found.ensures

pub row-beyond-requires : goal.row-beyond-requires
row-beyond-requires c =
    let b = next_of c.loop-found.found c.loop-found.left c.loop-found.auto.left-fits.fits c.loop-found-test.true in
    let l = c.loop-found.invariant.inside _ b.2 in
    omega (arith, l, c.requires.behind.count)

pub followed-requires : goal.followed-requires
followed-requires c = (next_of c.loop-found.found c.loop-found.left c.loop-found.auto.left-fits.fits c.loop-found-test.true).0

pub loop-found-smaller : goal.loop-found-smaller
loop-found-smaller c =
    let b = next_of c.loop-found.found c.loop-found.left c.loop-found.auto.left-fits.fits c.loop-found-test.true in
    less_but c.loop-found.left c.followed.result _ c.loop-found.auto.left-fits.fits c.followed.type_inv b.0 b.2 c.followed.ensures.own

pub loop-found-preserved : goal.loop-found-preserved
loop-found-preserved c =
    let b = next_of c.loop-found.found c.loop-found.left c.loop-found.auto.left-fits.fits c.loop-found-test.true in
    let l = c.loop-found.invariant.inside _ b.2 in
    gone_on c.args.of.now.count c.args.i c.loop-found.left c.loop-found.found _ c.row-beyond.result c.followed.result (In c.args.of.now) (λ x y p. pair_below c.args.of.now x y c.count.ensures.canonical p) c.followed.type_inv b.1 b.2 c.count.ensures.small c.loop-found.invariant
    (row_exact c.args.of.now.count _ c.row-beyond.result (ClosedFrom (c.args.i + 1) (In c.args.of.now)) c.args.self.now l c.requires.behind c.row-beyond.ensures) c.followed.ensures

pub returns : goal.returns
returns c =
    all_found c.args.of.now.count c.args.i c.loop-found.left c.loop-found.found (In c.args.of.now) (λ x y p. pair_below c.args.of.now x y c.count.ensures.canonical p) c.loop-found-test.false c.loop-found.invariant
