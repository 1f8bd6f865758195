use Rattle.std.proofs.Common.{◌≡◌, length}
use Rattle.descent.specs.Reading.{repeated, ◌>>=◌}
use Rattle.litmus_syntax.specs.declared.symbol.Terminal.TheVariants.{Semicolon}
use Rattle.litmus_syntax.specs.Reading.{syntax, after, entry_behind, entries_at}
use Rattle.litmus_syntax.proofs.syntax.Reader.entries.Given as goal

-- the next entry and what is behind it, read on, is what is read
abbrev pub invariant-loop-entries : goal.invariant-loop-entries
invariant-loop-entries l = (entry_behind l.entries.items l.self.rest.now >>= λ x. repeated (syntax 0) (after Semicolon) (λ _ bs us. entry_behind bs us) x.0 x.1) ≡ entries_at l.fn.self.rest.now

abbrev pub decreases-loop-entries : goal.decreases-loop-entries
decreases-loop-entries l = length l.self.rest.now
