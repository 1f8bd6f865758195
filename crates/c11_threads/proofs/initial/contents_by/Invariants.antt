use Rattle.std.proofs.Common.{◌≡◌, ◌++◌, drop, map}
use Rattle.c11_threads.specs.Runs.{initial_content, initial_contents}
use Rattle.c11_threads.proofs.initial.contents_by.Given as goal

abbrev pub invariant-loop-name : goal.invariant-loop-name
invariant-loop-name l = l.contents.items ++ map (initial_content l.test l.thread) (drop l.name-index l.name-items) ≡ initial_contents l.test l.thread
