use Rattle.std.proofs.Common.{◌≡◌, ◌∙◌, ◌%◌, length, ap, subst, sym, arith, ℕ}
use Rattle.events.specs.Executions.{GraphValue, IsGraph}
use Rattle.listings.specs.Numbered.{digits}
use Rattle.candidates.specs.Executions.{upto}
use Rattle.candidates.specs.Candidates.{count_orders, order_at}
use Rattle.candidates.proofs.Graphs.{is_candidate, is_graph}
use Rattle.candidates.proofs.Listed.{by_writes}
use Rattle.candidates.specs.Readings.{IsPage}
use Rattle.candidates.proofs.Pages.{reading_within, some_orders}
use Rattle.candidates.proofs.assembly.turned.Goals as goal

pub turn_sources-rf-requires-clause-page : goal.turn_sources-rf-requires-clause-page
turn_sources-rf-requires-clause-page c = by_writes _ c.args.page.now c.requires.page

pub new-requires : goal.new-requires
new-requires c =
    let init = c.args.graph.init in
    let page = c.args.page.now in
    let runs = page.runs.items in
    let parts = c.into_parts-parts.ensures.parts in
    let same : c.len.result ≡ length init = omega (arith, c.len.ensures, ap (λ (x : GraphValue). length x.init) parts) in
    let e = is_candidate init runs page.orders c.args.to c.into_parts-parts.result.init.items c.into_parts-parts.result.runs.items c.turn_sources-rf.result.items c.turn_orders-co.result.items
    (sym (ap (λ (x : GraphValue). x.init) parts)) (sym (ap (λ (x : GraphValue). x.runs) parts) ∙ ap (λ (x : GraphValue). x.runs) c.requires.graph) c.requires.page.orders
    c.turn_sources-rf.ensures (c.turn_orders-co.ensures ∙ ap (λ n. digits (count_orders runs) (order_at runs) (upto n) (c.args.to % page.orders)) same) in
    let P : GraphValue → Type 0 = IsGraph in
    subst P (sym e) (is_graph init runs c.args.to c.requires.page.within c.requires.number)

pub returns : goal.returns
returns c =
    let init = c.args.graph.init in
    let page = c.args.page.now in
    let runs = page.runs.items in
    let parts = c.into_parts-parts.ensures.parts in
    let same : c.len.result ≡ length init = omega (arith, c.len.ensures, ap (λ (x : GraphValue). length x.init) parts) in
    c.new.ensures ∙ is_candidate init runs page.orders c.args.to c.into_parts-parts.result.init.items c.into_parts-parts.result.runs.items c.turn_sources-rf.result.items c.turn_orders-co.result.items
    (sym (ap (λ (x : GraphValue). x.init) parts)) (sym (ap (λ (x : GraphValue). x.runs) parts) ∙ ap (λ (x : GraphValue). x.runs) c.requires.graph) c.requires.page.orders
    c.turn_sources-rf.ensures (c.turn_orders-co.ensures ∙ ap (λ n. digits (count_orders runs) (order_at runs) (upto n) (c.args.to % page.orders)) same)

pub turn_sources-rf-requires-clause-number : goal.turn_sources-rf-requires-clause-number
turn_sources-rf-requires-clause-number c = reading_within (length c.args.graph.init) c.args.page.now c.args.to c.requires.page c.requires.number

pub turn_orders-co-requires-clause-page : goal.turn_orders-co-requires-clause-page
turn_orders-co-requires-clause-page c =
    let same : c.len.result ≡ length c.args.graph.init = omega (arith, c.len.ensures, ap (λ (x : GraphValue). length x.init) c.into_parts-parts.ensures.parts) in
    let P : ℕ → Type 0 = λ n. IsPage n c.args.page.now in
    subst P (sym same) c.requires.page

pub nonzero_rem-to : goal.nonzero_rem-to
nonzero_rem-to c = some_orders (length c.args.graph.init) c.args.page.now c.requires.page

pub nonzero_rem-from : goal.nonzero_rem-from
nonzero_rem-from c = some_orders (length c.args.graph.init) c.args.page.now c.requires.page

pub nonzero_div-to : goal.nonzero_div-to
nonzero_div-to c = some_orders (length c.args.graph.init) c.args.page.now c.requires.page

pub nonzero_div-from : goal.nonzero_div-from
nonzero_div-from c = some_orders (length c.args.graph.init) c.args.page.now c.requires.page
