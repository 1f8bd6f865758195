use Rattle.std.proofs.Common.{map}
use Rattle.slices.proofs.Sets.{as_before}
use Rattle.slices.proofs.state_set.add_rows.Goals as goal

pub remove_each-requires : goal.remove_each-requires
remove_each-requires c = c.in-Err.ensures.some.whole.sorted c.requires.sorted

pub returns-clause-same : goal.returns-clause-same
returns-clause-same c =
    let added = map (λ row. row.now) c.insert_each.new.added.items in
    let without = rw c.deref.ensures.value at c.remove_each.ensures in
    as_before c.args.set.now.keys c.insert_each.new.set.keys c.remove_each.new.set.keys added c.requires.sorted c.in-Err.ensures.some without
