use Rattle.std.proofs.Common.{drop}
use Rattle.slices.specs.Parts.{PieceValue}
use Rattle.scripts.specs.Passes.{NoneGives, SomeGives}
use Rattle.scripts.proofs.seats.piece_in.Given as goal

abbrev pub invariant-loop-pass : goal.invariant-loop-pass
invariant-loop-pass g l =
    (NoneGives l.claim (drop l.pass-index l.passes) → NoneGives l.claim l.passes) × ((piece : PieceValue) → SomeGives l.claim (drop l.pass-index l.passes) piece → SomeGives l.claim l.passes piece)
