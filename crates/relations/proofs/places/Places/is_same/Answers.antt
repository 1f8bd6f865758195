use Rattle.std.proofs.Common.{◌∙◌, sym, ap}
use Rattle.std.proofs.lemmas.Bool.{eqb-true, eq-eqb}
use Rattle.relations.specs.Events.{event_set}
use Rattle.relations.specs.Words.{has_bit}
use Rattle.relations.proofs.Sets.{same_word}
use Rattle.relations.proofs.places.Places.is_same.Goals as goal

pub returns : goal.returns
returns c = (
  λ t. sym c.word.ensures ∙ ap (λ w. event_set 64 (has_bit w)) (eqb-true c.word.result c.word-2.result t) ∙ c.word-2.ensures,
  λ e. eq-eqb c.word.result c.word-2.result (same_word c.word.result c.word-2.result c.word.type_inv c.word-2.type_inv (c.word.ensures ∙ e ∙ sym c.word-2.ensures)),
)
