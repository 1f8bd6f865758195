use Rattle.test_places.proofs.Told.{told_at_token}
use Rattle.test_places.proofs.place.place_of.Goals as goal

pub returns-in_default : goal.returns-in_default
returns-in_default c = told_at_token c.args.text.now c.args.fault.now c.place_among.result c.in_default.not-Text c.in_default.not-Syntax c.place_among.ensures
