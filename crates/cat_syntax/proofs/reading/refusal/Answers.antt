use Rattle.cat_syntax.proofs.Refusals.{deep_told}
use Rattle.cat_syntax.proofs.reading.refusal.Goals as goal

pub returns-in-TooDeep-clause-reported : goal.returns-in-TooDeep-clause-reported
returns-in-TooDeep-clause-reported c = deep_told c.args.symbols.now c.args.tokens.now c.args.end c.args.place c.args.fault c.in-TooDeep.is c.requires.stops c.requires.first
