use Rattle.slices.proofs.Told.{findings_merged, union_again}
use Rattle.slices.proofs.finding.Finding.merge.Goals as goal

pub returns-clause-merged : goal.returns-clause-merged
returns-clause-merged c =
    let flags = union_again c.new-flags.result.items c.self.inside.flags.items c.add_names.new.flags.items c.other.inside.flags.items c.add_names-2.new.flags.items c.new-flags.ensures.items (rw c.deref.ensures.value at c.in_ok-add_names.ensures) (rw c.deref-2.ensures.value at c.in_ok-add_names-2.ensures) in
    rw (← c.self.view_is, ← c.other.view_is) (findings_merged _ _ c.add_rows.new.set.keys c.add_names-2.new.flags.items c.in_ok-add_rows.ensures.added flags)
