use Rattle.std.proofs.Common.{◌∙◌, length, ap, arith}
use Rattle.candidates.proofs.Listed.{written_at}
use Rattle.candidates.proofs.reading.sources_of.Goals as goal

pub writes_to-requires : goal.writes_to-requires
writes_to-requires c = (written_at c.args.page.now.runs.items c.requires.0 c.args.read.now.loc c.args.page.now.writes.items c.requires.1.writes_are c.requires.2).0

pub returns : goal.returns
returns c =
    let e = c.writes_to.ensures ∙ (written_at c.args.page.now.runs.items c.requires.0 c.args.read.now.loc c.args.page.now.writes.items c.requires.1.writes_are c.requires.2).1 in
    omega (arith, ap length e)
