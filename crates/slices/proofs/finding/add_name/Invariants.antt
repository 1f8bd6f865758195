use Rattle.std.proofs.Common.{◌≡◌, ◌++◌, take, drop}
use Rattle.std.specs.BTreeSet.{insert_key}
use Rattle.slices.proofs.Rows.{row_cmp}
use Rattle.slices.proofs.finding.add_name.Given as goal

-- the first names come before this one
abbrev pub invariant-loop-place : goal.invariant-loop-place
invariant-loop-place l = (l.flags.items ≡ l.fn.flags.items) × (insert_key row_cmp l.flags.items l.name ≡ take l.place l.flags.items ++ insert_key row_cmp (drop l.place l.flags.items) l.name)
