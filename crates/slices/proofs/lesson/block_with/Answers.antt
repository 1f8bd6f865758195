use Rattle.std.proofs.Common.{ℕ, Option, sym, subst}
use Rattle.std.specs.Prelude.{IfSome}
use Rattle.slices.specs.Passing.{IsForbidden}
use Rattle.slices.specs.declared.lesson.Forbidden.{Forbidden}
use Rattle.slices.proofs.Refuting.{one_forbidden}
use Rattle.slices.proofs.lesson.block_with.Goals as goal

pub returns-in-Some : goal.returns-in-Some
returns-in-Some c items fatal h =
    let P : Option Forbidden → Type 0 = λ o. IfSome o (λ f. IsForbidden items c.args.walk.now f.end) in
    c.widen.ensures items fatal (subst P c.in-Some.is h)

pub returns-in-None : goal.returns-in-None
returns-in-None c items fatal h =
    let P : ℕ → Type 0 = IsForbidden items c.args.walk.now in
    c.widen-in-None.ensures items fatal (subst P (sym c.alone.ensures) (one_forbidden items c.args.walk.now c.args.number c.args.reason c.requires.found c.requires.shown c.requires.has fatal))
