use Rattle.std.proofs.Common.{◌≡◌, [], get_or, ap, ◌∙◌}
use Rattle.events.specs.declared.event.EventId.{EventId}
use Rattle.events.specs.declared.event.EventId.TheVariants.{Initial}
use Rattle.candidates.specs.Candidates.{write_value}
use Rattle.slices.specs.Finals.{last_or}
use Rattle.slices.proofs.Counted.{last_of}
use Rattle.slices.proofs.slot.final_location.Goals as goal

pub returns-in-Some : goal.returns-in-Some
returns-in-Some c =
    let graph = c.args.graph.now in
    let initial : EventId = Initial c.args.location in
    let last = last_of initial c.in-Some.order.now in
    let order : c.in-Some.order.now ≡ get_or graph.co c.args.location [] = cc (c.in-Some.ensures.lookup.3.1 []) in
    let found : c.unwrap_or-last.result ≡ last_or initial c.in-Some.order.now = cc in
    let parts : write_value c.init.result.now c.runs.result.now c.unwrap_or-last.result ≡ write_value graph.init graph.runs c.unwrap_or-last.result =
    ap (λ init. write_value init c.runs.result.now c.unwrap_or-last.result) c.init.ensures ∙ ap (λ runs. write_value graph.init runs c.unwrap_or-last.result) c.runs.ensures.value in
    c.write_value.ensures ∙ parts ∙ ap (write_value graph.init graph.runs) (found ∙ ap (last_or initial) order)
