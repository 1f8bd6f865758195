use Rattle.std.proofs.Common.{◌≡◌, refl, sym, arith}
use Rattle.relations.proofs.Words.{row_one, row_told}
use Rattle.relations.proofs.Sets.{set_of}
use Rattle.relations.proofs.places.Places.just.Goals as goal

pub returns-then-place-lt64 : goal.returns-then-place-lt64
returns-then-place-lt64 c = set_of 64 64 _ _ refl (row_told 64 (λ j. c.args.place ≡ j) (λ j. j ≡ c.args.place) _ (λ j l e. sym e) (λ j l e. sym e) (row_one 64 c.args.place (omega (arith, c.if-place-lt64.true))))
