use Rattle.std.proofs.Common.{subst, sym}
use Rattle.cat_places.specs.Fronts.{HasNoPlace, leaves_out, too_deep, too_large}
use Rattle.cat_places.proofs.text.place_of_text.Goals as goal

pub place_among-requires : goal.place_among-requires
place_among-requires c = subst HasNoPlace (sym c.in-Unsupported.is) leaves_out

pub place_among-requires-in-TooDeep : goal.place_among-requires-in-TooDeep
place_among-requires-in-TooDeep c = subst HasNoPlace (sym c.in-TooDeep.is) too_deep

pub place_among-requires-in-TooLarge : goal.place_among-requires-in-TooLarge
place_among-requires-in-TooLarge c = subst HasNoPlace (sym c.in-TooLarge.is) too_large
