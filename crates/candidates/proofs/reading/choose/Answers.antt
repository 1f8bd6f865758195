use Rattle.std.proofs.Common.{◌∙◌}
use Rattle.candidates.proofs.Listed.{written_at, picked, pickable}
use Rattle.candidates.proofs.reading.choose.Goals as goal

pub writes_to-requires : goal.writes_to-requires
writes_to-requires c = (written_at c.args.page.now.runs.items c.requires.page.0 c.args.read.now.loc c.args.page.now.writes.items c.requires.page.1.writes_are c.requires.page.2).0

pub pick_source-requires-clause-some : goal.pick_source-requires-clause-some
pick_source-requires-clause-some c =
    let runs = c.args.page.now.runs.items in
    let e = c.writes_to.ensures ∙ (written_at runs c.requires.page.0 c.args.read.now.loc c.args.page.now.writes.items c.requires.page.1.writes_are c.requires.page.2).1 in
    (pickable runs c.args.read.now c.writes_to.result.now c.args.number c.args.ways e (c.requires.some, c.requires.digit)).0

pub pick_source-requires-clause-digit : goal.pick_source-requires-clause-digit
pick_source-requires-clause-digit c =
    let runs = c.args.page.now.runs.items in
    let e = c.writes_to.ensures ∙ (written_at runs c.requires.page.0 c.args.read.now.loc c.args.page.now.writes.items c.requires.page.1.writes_are c.requires.page.2).1 in
    (pickable runs c.args.read.now c.writes_to.result.now c.args.number c.args.ways e (c.requires.some, c.requires.digit)).1

pub returns : goal.returns
returns c =
    let runs = c.args.page.now.runs.items in
    let e = c.writes_to.ensures ∙ (written_at runs c.requires.page.0 c.args.read.now.loc c.args.page.now.writes.items c.requires.page.1.writes_are c.requires.page.2).1 in
    let got = c.pick_source.result in
    let p = picked runs c.args.read.now c.writes_to.result.now c.args.number c.args.ways got.source got.rest got.below e c.pick_source.ensures.source c.pick_source.ensures.rest c.pick_source.ensures.below in
    record { source = p.0; rest = p.1; below = p.2 }
