use Rattle.std.proofs.Common.{◌∙◌, sym, ◌∷◌, []}
use Rattle.candidates.proofs.Needed.{no_wants, one_want}
use Rattle.candidates.proofs.impossible.wanted.Goals as goal

pub returns-then-not-is_wanting : goal.returns-then-not-is_wanting
returns-then-not-is_wanting c = no_wants c.args.init.now c.args.stores.now (c.args.event.now ∷ [])

pub returns : goal.returns
returns c = one_want c.args.init.now c.args.stores.now c.args.event.now c.number_of.result (sym c.is_wanting.ensures ∙ c.if-not-is_wanting.false) c.number_of.ensures.is c.number_of.ensures.few
