use Rattle.std.proofs.Common.{◌≡◌, ◌++◌, Some, drop, take, map}
use Rattle.litmus_tree.specs.Tree.{term_of}
use Rattle.c11_threads.specs.Unrolled.{giving, given_at}
use Rattle.c11_threads.proofs.ways.give_each.Given as goal

abbrev pub invariant-loop-way : goal.invariant-loop-way
invariant-loop-way l = take l.way-index l.way-items ++ map (λ p. giving (Some l.register) (given_at l.setting p (term_of l.expression)) p) (drop l.way-index l.way-items) ≡ map (λ p. giving (Some l.register) (given_at l.setting p (term_of l.expression)) p) l.fn.starts.items
