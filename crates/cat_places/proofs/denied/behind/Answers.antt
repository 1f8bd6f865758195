use Rattle.std.proofs.Common.{rules}
use Rattle.std.proofs.lemmas.List.{take_rest}
use Rattle.cat_places.proofs.denied.behind.Goals as goal

pub returns : goal.returns
returns c = search (rules, take_rest c.args.text.now c.args.from)
