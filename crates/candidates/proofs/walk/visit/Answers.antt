use Rattle.candidates.proofs.Stretches.{found_here, none_here}
use Rattle.std.proofs.Common.{ℕ, List, length, subst, sym}
use Rattle.candidates.specs.Readings.{HasSuitable, IsPage}
use Rattle.candidates.proofs.walk.visit.Goals as goal

pub returns-in-Until : goal.returns-in-Until
returns-in-Until c =
    none_here c.args.space.now c.args.stretch.now c.args.number c.init.result.now c.in-Until.next c.init.ensures c.requires.within.stretch c.requires.within.first c.requires.within.last c.in-Until.ensures

pub returns-in-Found : goal.returns-in-Found
returns-in-Found c =
    found_here c.args.space.now c.args.stretch.now c.args.number c.init.result.now c.in-Found.hit c.init.ensures c.requires.within.stretch c.requires.within.first c.requires.within.last c.in-Found.ensures

pub look_at-requires-clause-page : goal.look_at-requires-clause-page
look_at-requires-clause-page c = let P : List ℕ → Type 0 = λ is. IsPage (length is) c.args.stretch.now.page in subst P (sym c.init.ensures) c.requires.within.stretch.page

pub look_at-requires-clause-fits : goal.look_at-requires-clause-fits
look_at-requires-clause-fits c = let P : List ℕ → Type 0 = λ is. HasSuitable is c.args.stretch.now.page in subst P (sym c.init.ensures) c.requires.within.stretch.fits
