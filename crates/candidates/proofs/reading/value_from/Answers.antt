use Rattle.std.proofs.Common.{◌∙◌, ◌∷◌, List, length, ap, arith}
use Rattle.std.specs.Prelude.{slice_index_or}
use Rattle.events.specs.declared.event.EventId.{EventId}
use Rattle.events.specs.declared.event.EventId.TheVariants.{Initial}
use Rattle.events.specs.Executions.{ThreadRun}
use Rattle.candidates.specs.Candidates.{write_value}
use Rattle.candidates.proofs.Listed.{written_at}
use Rattle.candidates.proofs.reading.value_from.Goals as goal

pub writes_to-later-requires : goal.writes_to-later-requires
writes_to-later-requires c = (written_at c.args.page.now.runs.items c.requires.page.0 c.args.read.now.loc c.args.page.now.writes.items c.requires.page.1.writes_are c.requires.page.2).0

pub source-requires : goal.source-requires
source-requires c =
    let e = c.writes_to-later.ensures ∙ (written_at c.args.page.now.runs.items c.requires.page.0 c.args.read.now.loc c.args.page.now.writes.items c.requires.page.1.writes_are c.requires.page.2).1 in
    omega (arith, ap length e, c.requires.place)

pub returns : goal.returns
returns c =
    let e = c.writes_to-later.ensures ∙ (written_at c.args.page.now.runs.items c.requires.page.0 c.args.read.now.loc c.args.page.now.writes.items c.requires.page.1.writes_are c.requires.page.2).1 in
    let from = c.source.ensures ∙ ap (λ (ws : List EventId). slice_index_or (Initial c.args.read.now.loc ∷ ws) c.args.place (Initial 0)) e in
    c.write_value.ensures ∙ ap (λ (rs : List ThreadRun). write_value c.args.init.now rs c.source.result) c.deref.ensures.value ∙ ap (write_value c.args.init.now c.args.page.now.runs.items) from
