use Rattle.std.proofs.Common.{subst}
use Rattle.events.specs.Executions.{GraphValue}
use Rattle.events.proofs.Made.{AreFound, fr_named, seen_found}
use Rattle.events.proofs.view.GraphView.fr_into.Goals as goal

pub returns : goal.returns
returns c =
    let v = c.self.inside in
    let P : GraphValue → Type 0 = AreFound in
    fr_named c.args.self.now c.co.result.now c.turned.result.now _ (subst P c.self.view_is (seen_found v.shown v.graph.now c.runs.ensures.graph c.self.invariant.shown)) c.turned.ensures c.co.ensures c.become_seq.ensures
