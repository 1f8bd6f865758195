use Rattle.std.proofs.Common.{ℕ, sym, subst, arith}
use Rattle.relations.proofs.Words.{lowest_bit, without_lowest, less_lowest}
use Rattle.relations.proofs.Relations.{bounded, rcount}
use Rattle.relations.proofs.Turned.{Inserts, inserts_begun, inserts_on, inserts_done}
use Rattle.relations.proofs.rel.Rel.insert_from.Goals as goal

pub loop-left-init : goal.loop-left-init
loop-left-init c = inserts_begun c.args.from c.args.to c.args.self.now (bounded _ _ _ c.self.view_is) c.requires.inside

pub insert-requires-clause-from : goal.insert-requires-clause-from
insert-requires-clause-from c =
    let b = lowest_bit c.loop-left.left c.loop-left.auto.left-fits.fits c.loop-left-test.true in
    let l = (c.loop-left.invariant.inside _ b.1).0 in
    omega (arith, l, c.loop-left.invariant.exact.count)

pub insert-requires-clause-to : goal.insert-requires-clause-to
insert-requires-clause-to c = omega (arith, c.requires.to, c.loop-left.invariant.exact.count)

pub loop-left-smaller : goal.loop-left-smaller
loop-left-smaller c = less_lowest c.loop-left.left c.loop-left-test.true

pub loop-left-preserved : goal.loop-left-preserved
loop-left-preserved c =
    let left : ℕ = c.loop-left.left in
    let fits = c.loop-left.auto.left-fits.fits in
    let b = lowest_bit left fits c.loop-left-test.true in
    let Q : ℕ → Type 0 = λ x. Inserts c.args.self.now.count c.args.from x c.args.to c.args.self.now c.insert.new.self in
    subst Q (sym (without_lowest left fits c.loop-left-test.true))
    (inserts_on c.args.self.now.count c.args.from left c.args.to _ c.args.self.now c.loop-left.self c.insert.new.self b.0 (omega (arith, c.self.invariant, rcount _ _ _ c.self.view_is)) b.1 c.loop-left.invariant c.insert.ensures)

pub returns : goal.returns
returns c = inserts_done _ _ _ _ _ _ c.loop-left-test.false c.loop-left.invariant
