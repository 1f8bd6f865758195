use Rattle.std.proofs.Common.{◌-◌, ◌≡◌, sym, subst, arith}
use Rattle.std.specs.Prelude.{Option, IfSome}
use Rattle.events.specs.Structures.{Structure, structure_of}
use Rattle.slices.proofs.Steadily.{steady_block}
use Rattle.slices.proofs.counting.rely.Goals as goal

pub returns-in-Some-clause-steady : goal.returns-in-Some-clause-steady
returns-in-Some-clause-steady c =
    let w = c.args.walk.now in
    let R : Option Structure → Type 0 = λ r. IfSome r (λ s. s ≡ structure_of w.shown) in
    steady_block w.space (w.next - 1) c.in-Some.block.end c.args.number w.shown c.in-Some.block.cut c.forget_runs.new.self.relied (let found = c.requires.found in omega (arith, found)) c.in-Some.ensures.extend (subst R (sym c.forget_runs.ensures.relied) tt)
