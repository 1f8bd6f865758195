use Rattle.std.proofs.Common.{subst, sym}
use Rattle.events.specs.Executions.{GraphValue, IsGraph}
use Rattle.candidates.proofs.Graphs.{is_candidate, is_graph}
use Rattle.candidates.proofs.assembly.assemble_in.Goals as goal

pub new-requires : goal.new-requires
new-requires c =
    let init = c.args.init.now in
    let runs = c.args.page.now.runs.items in
    let number = c.args.number in
    let filled = c.in_ok-filled.filled in
    let e = is_candidate init runs c.args.page.now.orders number filled.init.items filled.runs.items filled.rf.items filled.co.items
    c.in_ok-filled.ensures.init c.in_ok-filled.ensures.runs c.requires.page.orders c.in_ok-filled.ensures.rf c.in_ok-filled.ensures.co in
    let P : GraphValue → Type 0 = IsGraph in
    subst P (sym e) (is_graph init runs number c.requires.page.within c.requires.number)
