use Rattle.std.proofs.Common.{◌≡◌, map}
use Rattle.litmus_syntax.specs.Drafts.{listing_of}
use Rattle.litmus_c.specs.Rules.{programs_of}
use Rattle.litmus_c.proofs.making.make_threads.Given as goal

abbrev pub invariant-loop-body : goal.invariant-loop-body
invariant-loop-body l = l.threads.items ≡ programs_of 0 l.entries (map listing_of l.yielded)
