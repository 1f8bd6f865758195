use Rattle.std.proofs.Common.{sym, ap, arith}
use Rattle.slices.specs.Fronts.{front_of}
use Rattle.slices.proofs.Fronts.{rises, falls}
use Rattle.slices.proofs.row.RowOrd.cmp.Goals as goal

pub returns-then-self-other : goal.returns-then-self-other
returns-then-self-other c =
    sym (rises c.args.self.now c.args.other.now (omega (arith, c.if-self-other.true, c.self.invariant, c.other.invariant, ap front_of c.self.view_is, ap front_of c.other.view_is)))

pub returns-then-other-self : goal.returns-then-other-self
returns-then-other-self c =
    sym (falls c.args.self.now c.args.other.now (omega (arith, c.if-other-self.true, c.self.invariant, c.other.invariant, ap front_of c.self.view_is, ap front_of c.other.view_is)))
