use Rattle.candidates.proofs.Passing.{again_of, behind_of}
use Rattle.std.proofs.Common.{arith}
use Rattle.candidates.proofs.reading.look_behind.Goals as goal

pub returns-then-last-reading : goal.returns-then-last-reading
returns-then-last-reading c = again_of c.args.init.now c.args.page.now.runs.items c.args.page.now.orders c.args.number c.args.known c.requires.page.orders c.if-last-reading.true c.requires.number c.requires.known

pub returns : goal.returns
returns c = c.look_anew.ensures

pub look_anew-requires-clause-page : goal.look_anew-requires-clause-page
look_anew-requires-clause-page c = c.requires.page

pub look_anew-requires-clause-number : goal.look_anew-requires-clause-number
look_anew-requires-clause-number c = c.requires.number

pub returns-then-number-known : goal.returns-then-number-known
returns-then-number-known c = behind_of c.args.init.now c.args.page.now.runs.items c.args.page.now.orders c.args.number c.args.known c.requires.page.orders (omega arith) (omega arith) c.requires.known
