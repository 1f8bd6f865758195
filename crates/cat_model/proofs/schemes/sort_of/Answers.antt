use Rattle.std.proofs.Common.{◌∙◌, []}
use Rattle.cat_model.proofs.schemes.sort_of.Goals as goal

pub returns : goal.returns
returns c = λ S f. (c.alone.ensures ∙ c.in_ok-scheme.ensures S f [])
