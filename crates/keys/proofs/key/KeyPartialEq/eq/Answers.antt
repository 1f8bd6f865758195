use Rattle.std.proofs.Common.{◌∙◌}
use Rattle.std.proofs.lemmas.Slice.Eq.{bytes_eq-Decides}
use Rattle.std.specs.Str.{bytes_eq}
use Rattle.keys.proofs.Stacks.{compared_reversed}
use Rattle.keys.proofs.key.KeyPartialEq.eq.Goals as goal

pub returns-clause-value : goal.returns-clause-value
returns-clause-value c = c.eq.ensures ∙ compared_reversed c.self.inside.bytes.items c.other.inside.bytes.items ∙ (λ i. bytes_eq (c.self.view_is i) (c.other.view_is i))

pub returns-clause-exact : goal.returns-clause-exact
returns-clause-exact c = rw (returns-clause-value c) (bytes_eq-Decides c.args.self.now c.args.other.now)
