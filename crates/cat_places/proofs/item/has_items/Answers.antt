use Rattle.std.proofs.Common.{◌≡◌, ◌+◌, length, rules}
use Rattle.cat_places.proofs.Owning.{counted, uncounted}
use Rattle.cat_places.proofs.item.has_items.Goals as goal

pub returns-in-Some-clause-no : goal.returns-in-Some-clause-no
returns-in-Some-clause-no c = λ differs has.
    let so_many : length c.items.result.now ≡ c.args.items + c.args.more = counted c.args.text.now c.in_ok-file.field-0 c.in-Some.file c.items.result.now (c.args.items + c.args.more) c.in-Some.is c.in_ok-file.ensures c.items.ensures has in
    search (rules, so_many, differs, c.are_so_many.ensures)

pub returns-in-None-clause-no : goal.returns-in-None-clause-no
returns-in-None-clause-no c = λ _ has. uncounted c.args.text.now c.in_ok-file.field-0 (c.args.items + c.args.more) c.in-None.is c.in_ok-file.ensures has
