use Rattle.std.proofs.Common.{◌≡◌, ℕ, ◌<◌, length, get_or}
use Rattle.relations.proofs.rel.Rel.fill.Given as goal

abbrev pub invariant-loop-i : goal.invariant-loop-i
invariant-loop-i g l = (length l.self-inside.rows ≡ 64) × (l.self-inside.count ≡ l.count) × ((k : ℕ) → k < l.i → goal.F-post g l.row k (get_or l.self-inside.rows k 0))
