use Rattle.std.proofs.Common.{◌≡◌, length, map}
use Rattle.descent.specs.Reading.{◌>>=◌, repeated}
use Rattle.cat_syntax.specs.declared.symbol.Terminal.TheVariants.{Comma}
use Rattle.cat_tree.specs.Tree.{shown_of}
use Rattle.cat_syntax.specs.Reading.{after, push_item, separated, element_at, cut}
use Rattle.cat_syntax.proofs.reading.Reader.elements.Given as goal

-- the elements so far, and those that follow, are what is read
abbrev pub invariant-loop-elements : goal.invariant-loop-elements
invariant-loop-elements l = (push_item (λ _. element_at) tt (map shown_of l.elements.items) l.self.rest.now >>= λ x. repeated cut (after Comma) (push_item (λ _. element_at)) x.0 x.1) ≡ separated Comma (λ _. element_at) l.fn.self.rest.now

abbrev pub decreases-loop-elements : goal.decreases-loop-elements
decreases-loop-elements l = length l.self.rest.now
