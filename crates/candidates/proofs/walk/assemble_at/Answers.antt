use Rattle.std.proofs.Common.{ℕ, List, length, subst, sym}
use Rattle.candidates.specs.Readings.{IsPage}
use Rattle.candidates.proofs.walk.assemble_at.Goals as goal

pub assemble-requires-clause-page : goal.assemble-requires-clause-page
assemble-requires-clause-page c = let P : List ℕ → Type 0 = λ is. IsPage (length is) c.args.stretch.now.page in subst P (sym c.init.ensures) c.requires.found.stretch.page
