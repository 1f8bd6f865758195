-- A result of all numbers of a work, and a tally that holds all of them.
use Rattle.std.specs.Prelude.{◌≡◌}
use Rattle.slices.specs.Parts.{PieceResultValue, test_size}
use Rattle.slices.specs.Tallies.{TallyValue, IsCover}
use Rattle.slices.specs.Works.{WorkValue}

abbrev pub IsOver : WorkValue → PieceResultValue → Type 0
IsOver work r = (r.piece.work ≡ work) × (r.piece.from ≡ 0) × (r.piece.to ≡ test_size work.test)

abbrev pub IsWhole : TallyValue → Type 0
IsWhole t = IsCover (test_size t.work.test) t.spans
