use Rattle.wb_text.proofs.Lists.{list_once}
use Rattle.wb_text.proofs.laws.one_token_list.Goals as goal

pub returns : goal.returns
returns c = λ dialect text ts us a b. list_once b a
