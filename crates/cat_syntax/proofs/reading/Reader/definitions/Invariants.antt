use Rattle.std.proofs.Common.{◌≡◌, length, map}
use Rattle.descent.specs.Reading.{◌>>=◌, repeated}
use Rattle.cat_syntax.specs.declared.symbol.Terminal.TheVariants.{And}
use Rattle.cat_tree.specs.Tree.{defined_of}
use Rattle.cat_syntax.specs.Reading.{after, push_item, separated, definition_at, cut}
use Rattle.cat_syntax.proofs.reading.Reader.definitions.Given as goal

-- the definitions so far, and those that follow, are what is read
abbrev pub invariant-loop-definitions : goal.invariant-loop-definitions
invariant-loop-definitions l = (push_item definition_at tt (map defined_of l.definitions.items) l.self.rest.now >>= λ x. repeated cut (after And) (push_item definition_at) x.0 x.1) ≡ separated And definition_at l.fn.self.rest.now

abbrev pub decreases-loop-definitions : goal.decreases-loop-definitions
decreases-loop-definitions l = length l.self.rest.now
