use Rattle.conditions.specs.Spellings.{spelled_place, spelled_binding, spelled_condition}
use Rattle.conditions.proofs.laws.exact_spelling.Goals as goal

pub returns : goal.returns
returns c = record { places = spelled_place.exact; bindings = spelled_binding.exact; conditions = spelled_condition.exact }
