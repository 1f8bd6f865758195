use Rattle.std.proofs.Common.{refl}
use Rattle.relations.proofs.Words.{row_none}
use Rattle.relations.proofs.Sets.{set_of}
use Rattle.relations.proofs.places.Places.none.Goals as goal

pub returns : goal.returns
returns c = set_of 64 64 _ 0 refl (row_none 64)
