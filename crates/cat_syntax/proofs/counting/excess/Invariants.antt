use Rattle.std.proofs.Common.{◌≡◌, ◌+◌, ◌≤◌, ℕ, drop, take}
use Rattle.cat_syntax.specs.declared.counting.Context.TheVariants.{Naming}
use Rattle.cat_syntax.specs.Counting.{weight}
use Rattle.cat_syntax.proofs.counting.excess.Given as goal

-- the nodes so far, at most one a symbol, and those that are left are all; so it is of the first few
abbrev pub invariant-loop-i : goal.invariant-loop-i
invariant-loop-i l = (l.nodes + weight l.context l.depth (drop l.i l.symbols) ≡ weight Naming 0 l.symbols) × (l.nodes ≤ 4096) × (l.nodes ≤ l.i) ×
    ((m : ℕ) → l.nodes + weight l.context l.depth (take m (drop l.i l.symbols)) ≡ weight Naming 0 (take (l.i + m) l.symbols)) ×
    (l.depth ≤ l.i)
