use Rattle.std.proofs.Common.{◌≡◌, rules}
use Rattle.cat_places.proofs.OneRefusal.{read_none, refused_once}
use Rattle.cat_places.proofs.text.is_refused.Goals as goal

pub returns-in-Ok-clause-no : goal.returns-in-Ok-clause-no
returns-in-Ok-clause-no c = λ _ h. read_none c.args.text.now c.in-Ok._file c.args.fault.now c.requires c.in-Ok.ensures.found h

pub returns-in-Err-clause-no : goal.returns-in-Err-clause-no
returns-in-Err-clause-no c = λ differs h.
    let same : c.in-Err.found ≡ c.args.fault.now = refused_once c.args.text.now c.in-Err.found c.args.fault.now c.requires c.in_ok-in_memory-in-Err.ensures c.in-Err.ensures.cause h in
    search (rules, same, differs, c.eq.ensures)
