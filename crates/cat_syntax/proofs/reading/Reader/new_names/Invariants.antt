use Rattle.std.proofs.Common.{◌≡◌, length}
use Rattle.descent.specs.Reading.{◌>>=◌, repeated}
use Rattle.cat_syntax.specs.declared.symbol.Terminal.TheVariants.{Comma}
use Rattle.cat_syntax.specs.Reading.{after, push_item, separated, new_name_at, cut}
use Rattle.cat_syntax.proofs.reading.Reader.new_names.Given as goal

-- the names so far, and those that follow, are what is read
abbrev pub invariant-loop-names : goal.invariant-loop-names
invariant-loop-names l = (push_item new_name_at tt l.names.items l.self.rest.now >>= λ x. repeated cut (after Comma) (push_item new_name_at) x.0 x.1) ≡ separated Comma new_name_at l.fn.self.rest.now

abbrev pub decreases-loop-names : goal.decreases-loop-names
decreases-loop-names l = length l.self.rest.now
