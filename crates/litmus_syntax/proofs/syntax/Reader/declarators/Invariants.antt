use Rattle.std.proofs.Common.{◌≡◌, length, map}
use Rattle.descent.specs.Reading.{repeated, ◌>>=◌}
use Rattle.litmus_syntax.specs.declared.symbol.Terminal.TheVariants.{Comma}
use Rattle.litmus_tree.specs.Tree.{declared_of}
use Rattle.litmus_syntax.specs.Reading.{syntax, after, declarators_more, declarators_at}
use Rattle.litmus_syntax.proofs.syntax.Reader.declarators.Given as goal

-- one declarator more and what is behind it, read on, is what is read
abbrev pub invariant-loop-declarators : goal.invariant-loop-declarators
invariant-loop-declarators l = (declarators_more l.nesting (map declared_of l.declarators.items) l.self.rest.now >>= λ x. repeated (syntax 0) (after Comma) (λ _ ds us. declarators_more l.nesting ds us) x.0 x.1) ≡ declarators_at l.nesting l.fn.self.rest.now

abbrev pub decreases-loop-declarators : goal.decreases-loop-declarators
decreases-loop-declarators l = length l.self.rest.now
