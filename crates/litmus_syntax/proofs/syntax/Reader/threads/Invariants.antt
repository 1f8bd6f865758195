use Rattle.std.proofs.Common.{◌≡◌, length, map}
use Rattle.descent.specs.Reading.{repeated, ◌>>=◌}
use Rattle.litmus_syntax.specs.Drafts.{listing_of}
use Rattle.litmus_syntax.specs.Reading.{syntax, before_name, threads_more, threads_at}
use Rattle.litmus_syntax.proofs.syntax.Reader.threads.Given as goal

-- one thread more and what is behind it, read on, is what is read
abbrev pub invariant-loop-bodies : goal.invariant-loop-bodies
invariant-loop-bodies l = (threads_more l.nesting tt (map listing_of l.bodies.items) l.self.rest.now >>= λ x. repeated (syntax 0) before_name (threads_more l.nesting) x.0 x.1) ≡ threads_at l.nesting l.fn.self.rest.now

abbrev pub decreases-loop-bodies : goal.decreases-loop-bodies
decreases-loop-bodies l = length l.self.rest.now
