use Rattle.std.proofs.Common.{refl}
use Rattle.relations.proofs.Words.{row_or, row_at}
use Rattle.relations.proofs.Sets.{set_of, word_of, count_of}
use Rattle.relations.proofs.places.Places.union.Goals as goal

pub returns : goal.returns
returns c = set_of 64 64 _ _ refl (row_or 64 _ _ _ _
    (row_at _ _ _ _ (count_of _ _ _ c.self.view_is) (word_of _ _ _ c.self.view_is))
    (row_at _ _ _ _ (count_of _ _ _ c.other.view_is) (word_of _ _ _ c.other.view_is)))
