use Rattle.std.proofs.Common.{◌≡◌, length}
use Rattle.descent.specs.Reading.{repeated, ◌>>=◌}
use Rattle.litmus_syntax.specs.declared.symbol.Terminal.TheVariants.{Semicolon}
use Rattle.litmus_syntax.specs.Reading.{syntax, after, place_behind, places_at}
use Rattle.litmus_syntax.proofs.syntax.Reader.places.Given as goal

-- the next place and what is behind it, read on, is what is read
abbrev pub invariant-loop-places : goal.invariant-loop-places
invariant-loop-places l = (place_behind l.places.items l.self.rest.now >>= λ x. repeated (syntax 0) (after Semicolon) (λ _ ps us. place_behind ps us) x.0 x.1) ≡ places_at l.fn.self.rest.now

abbrev pub decreases-loop-places : goal.decreases-loop-places
decreases-loop-places l = length l.self.rest.now
