use Rattle.cat_eval.proofs.Alike.{values_dont_matter}
use Rattle.cat_eval.proofs.laws.values_apart.Goals as goal

pub returns : goal.returns
returns c = values_dont_matter c.bases.ensures.counts c.bases.ensures.sets c.bases.ensures.runs c.bases.ensures.sources
