use Rattle.std.proofs.Common.{◌≡◌, length, map}
use Rattle.descent.specs.Reading.{◌>>=◌, repeated}
use Rattle.cat_syntax.specs.declared.symbol.Terminal.TheVariants.{And}
use Rattle.cat_tree.specs.Tree.{bound_of}
use Rattle.cat_syntax.specs.Reading.{after, push_item, separated, binding_at, cut}
use Rattle.cat_syntax.proofs.reading.Reader.bindings.Given as goal

-- the bindings so far, and those that follow, are what is read
abbrev pub invariant-loop-bindings : goal.invariant-loop-bindings
invariant-loop-bindings l = (push_item binding_at tt (map bound_of l.bindings.items) l.self.rest.now >>= λ x. repeated cut (after And) (push_item binding_at) x.0 x.1) ≡ separated And binding_at l.fn.self.rest.now

abbrev pub decreases-loop-bindings : goal.decreases-loop-bindings
decreases-loop-bindings l = length l.self.rest.now
