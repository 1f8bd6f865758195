use Rattle.std.proofs.Common.{◌∙◌, sym}
use Rattle.candidates.proofs.Needed.{no_gift, one_gift}
use Rattle.candidates.proofs.impossible.given.Goals as goal

pub returns-then-not-is_write : goal.returns-then-not-is_write
returns-then-not-is_write c = no_gift c.args.stores.now c.args.event.now (sym c.is_write.ensures ∙ c.if-not-is_write.true)

pub returns : goal.returns
returns c = one_gift c.args.stores.now c.args.event.now c.number_of.result c.number_of.ensures.is c.number_of.ensures.few
