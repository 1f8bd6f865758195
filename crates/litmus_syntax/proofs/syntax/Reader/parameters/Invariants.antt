use Rattle.std.proofs.Common.{◌≡◌, length, map}
use Rattle.descent.specs.Reading.{repeated, ◌>>=◌}
use Rattle.litmus_syntax.specs.declared.symbol.Terminal.TheVariants.{Comma}
use Rattle.litmus_syntax.specs.Reading.{syntax, after, parameters_more, parameters_at}
use Rattle.litmus_syntax.proofs.syntax.Reader.parameters.Given as goal

-- one parameter more and what is behind it, read on, is what is read
abbrev pub invariant-loop-names : goal.invariant-loop-names
invariant-loop-names l = record {
  rest : (parameters_more l.parameters.items l.self.rest.now >>= λ x. repeated (syntax 0) (after Comma) (λ _ ps us. parameters_more ps us) x.0 x.1) ≡ parameters_at l.fn.self.rest.now;
  named : map (λ p. p.name) l.parameters.items ≡ l.names.keys;
}

abbrev pub decreases-loop-names : goal.decreases-loop-names
decreases-loop-names l = length l.self.rest.now
