use Rattle.std.proofs.Common.{◌≡◌, ◌++◌, drop}
use Rattle.c11_threads.proofs.progress.copy_contents.Given as goal

abbrev pub invariant-loop-content : goal.invariant-loop-content
invariant-loop-content l = l.copies.items ++ drop l.content-index l.contents ≡ l.contents
